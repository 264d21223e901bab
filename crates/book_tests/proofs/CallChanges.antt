-- What the calls of a book change.
use Rattle.std.proofs.Common.{◌≡◌, ◌≢◌, ℕ, zero, suc, List, [], ◌∷◌, ◌++◌, ◌<◌, ◌≤◌, ◌⊎◌, refl, sym, ◌∙◌, arith, length, Option, Some, None}
use Rattle.std.proofs.Common.{Bool, true, false, cond, set, inl, inr, append-nil}
use Rattle.std.proofs.lemmas.Bool.{cases_lt}
use Rattle.std.proofs.lemmas.List.{get_or-set_other, get_or_append_left, get_or_past}
use Rattle.pipe_model.specs.declared.event.Event.{Event}
use Rattle.pipe_model.specs.declared.event.Event.TheVariants as events
use Rattle.pipe_model.specs.declared.stage.StageEnd.{StageEnd}
use Rattle.pipe_model.specs.declared.stage.StageEnd.TheVariants as ends
use Rattle.pipe_model.specs.declared.status.Status.{Status}
use Rattle.pipe_model.specs.declared.status.Status.TheVariants.{Running, Pending, Completed}
use Rattle.pipe_model.specs.declared.ticket.Entry.{Entry}
use Rattle.pipe_model.specs.Runs.StageEnds.{stage_end_events}
use Rattle.pipe_model.specs.Runs.State.{Frame, frame_at}
use Rattle.pipe_frame.specs.declared.token.FrameToken.{FrameToken}
use Rattle.pipe_frame.specs.declared.results.Begun.TheVariants as begun
use Rattle.pipe_frame.specs.declared.results.Named.{Named}
use Rattle.pipe_frame.specs.declared.results.Named.TheVariants as named
use Rattle.pipe_frame.specs.declared.results.Next.{Next}
use Rattle.pipe_frame.specs.declared.results.Next.TheVariants as next
use Rattle.pipe_frame.specs.CallResults.{advance_events, resume_events}
use Rattle.pipe_frame.specs.TokenFields.{TokenFields}
use Rattle.frame_book.specs.BookStates.{BookState, TokenState, Out, Kept, Spent, item_or, state_of}
use Rattle.frame_book.specs.CallEffects.{after_advance, after_begin, after_leave_ready, after_name_next, after_stop, kept_now, token_after}
use Rattle.frame_book.specs.CallEffects.{with_entered, with_resumed}
use Rattle.book_tests.proofs.StayingTokens.{Changes, EndNoneOf, events_of_more, longer_with}

-- ---- events that end no instance of other iterations

ends_none : (i j : ℕ) (end : StageEnd) → j ≢ i → EndNoneOf j (stage_end_events i end)
ends_none i j (ends.Wait n) o = ((λ e. o (sym e)), tt)
ends_none i j (ends.Continue n) o = ((λ e. o (sym e)), tt)
ends_none i j ends.End o = ((λ e. o (sym e)), tt)
ends_none i j ends.Closed o = ((λ e. o (sym e)), tt)
ends_none i j (ends.Trap t) o = ((λ e. o (sym e)), tt)
ends_none i j ends.Stopped o = tt

ends_none_and_enters : (i j : ℕ) (end : StageEnd) → j ≢ i → EndNoneOf j (stage_end_events i end ++ events.Enter i ∷ [])
ends_none_and_enters i j (ends.Wait n) o = ((λ e. o (sym e)), (tt, tt))
ends_none_and_enters i j (ends.Continue n) o = ((λ e. o (sym e)), (tt, tt))
ends_none_and_enters i j ends.End o = ((λ e. o (sym e)), (tt, tt))
ends_none_and_enters i j ends.Closed o = ((λ e. o (sym e)), (tt, tt))
ends_none_and_enters i j (ends.Trap t) o = ((λ e. o (sym e)), (tt, tt))
ends_none_and_enters i j ends.Stopped o = (tt, tt)

advance_quiet : {M : Type 0} (i j : ℕ) (end : StageEnd) (result : Next M) → j ≢ i → EndNoneOf j (advance_events i end result)
advance_quiet i j end next.Stopped o = tt
advance_quiet i j end next.Ended o = ends_none i j end o
advance_quiet i j end next.Suspended o = ends_none i j end o
advance_quiet i j end (next.Go t) o = ends_none_and_enters i j end o

resume_quiet : (i j : ℕ) (o : Option Frame) → EndNoneOf j (resume_events o i)
resume_quiet i j None = tt
resume_quiet i j (Some f) = by_status f.status
  where
    by_status : (s : Status) → EndNoneOf j (resume_events (Some (record f { status = s })) i)
    by_status Running = tt
    by_status (Pending k n) = (tt, tt)
    by_status (Completed e) = tt

-- ---- lists with one item changed

out_other : (tokens : List TokenState) (i j : ℕ) (s : TokenState) → j ≢ i → item_or Spent tokens j ≡ Out
    → item_or Spent (set tokens i s) j ≡ Out
out_other tokens i j s o h = get_or-set_other tokens i j s Spent o ∙ h

out_longer : (tokens : List TokenState) (j : ℕ) → item_or Spent tokens j ≡ Out → item_or Spent (tokens ++ Out ∷ []) j ≡ Out
out_longer tokens j h = by_index (cases_lt j (length tokens))
  where
    by_index : (j < length tokens) ⊎ (length tokens ≤ j) → item_or Spent (tokens ++ Out ∷ []) j ≡ Out
    by_index (inl within) = get_or_append_left tokens (Out ∷ []) Spent j within ∙ h
    by_index (inr past) = absurd (let e : Spent ≡ Out = sym (get_or_past tokens j Spent past) ∙ h in cc)

traces_longer : (traces : List (List (List Entry))) (j : ℕ) → item_or [] (traces ++ [] ∷ []) j ≡ item_or [] traces j
traces_longer [] zero = refl
traces_longer [] (suc j) = refl
traces_longer (x ∷ xs) zero = refl
traces_longer (x ∷ xs) (suc j) = traces_longer xs j

-- ---- the calls

pub begin_changes : {M : Type 0} (i : ℕ) (v : BookState) (t : FrameToken M) → Changes i v (after_begin v (begun.Started t))
    (events.Begin t.iteration ∷ [])
begin_changes i v t = record {
  program = refl;
  input = refl;
  lists = refl;
  log = events_of_more v.log 0 (events.Begin t.iteration ∷ []);
  longer = longer_with v.log 0 (events.Begin t.iteration ∷ []);
  quiet = λ j o. (tt, tt);
  out = λ j o h. out_longer v.tokens j h;
  traces = λ j o. traces_longer v.traces j;
}

pub advance_changes : {M : Type 0} (v : BookState) (t : TokenFields) (end : StageEnd) (trace : List Entry) (result : Next M)
    → Changes t.iteration v (after_advance v t end trace result) (advance_events t.iteration end result)
advance_changes v t end trace result = record {
  program = refl;
  input = refl;
  lists = refl;
  log = events_of_more v.log t.now (advance_events t.iteration end result);
  longer = longer_with v.log t.now (advance_events t.iteration end result);
  quiet = λ j o. advance_quiet t.iteration j end result o;
  out = λ j o h. out_other v.tokens t.iteration j (token_after v t end result) o h;
  traces = λ j o. get_or-set_other v.traces t.iteration j (item_or [] v.traces t.iteration ++ trace ∷ []) [] o;
}

pub enter_changes : (v : BookState) (i : ℕ) → Changes i v (with_entered v i) (events.Enter i ∷ [])
enter_changes v i = record {
  program = refl;
  input = refl;
  lists = refl;
  log = events_of_more v.log (kept_now (item_or Spent v.tokens i)) (events.Enter i ∷ []);
  longer = longer_with v.log (kept_now (item_or Spent v.tokens i)) (events.Enter i ∷ []);
  quiet = λ j o. (tt, tt);
  out = λ j o h. out_other v.tokens i j Out o h;
  traces = λ j o. refl;
}

pub resume_changes : (v : BookState) (i : ℕ) → Changes i v (with_resumed v i) (resume_events (frame_at (state_of v).frames i) i)
resume_changes v i = record {
  program = refl;
  input = refl;
  lists = refl;
  log = events_of_more v.log (kept_now (item_or Spent v.tokens i)) (resume_events (frame_at (state_of v).frames i) i);
  longer = longer_with v.log (kept_now (item_or Spent v.tokens i)) (resume_events (frame_at (state_of v).frames i) i);
  quiet = λ j o. resume_quiet i j (frame_at (state_of v).frames i);
  out = λ j o h. out_other v.tokens i j Out o h;
  traces = λ j o. refl;
}

pub leave_changes : (v : BookState) (t : TokenFields) → Changes t.iteration v (after_leave_ready v t) []
leave_changes v t = record {
  program = refl;
  input = refl;
  lists = refl;
  log = sym (append-nil _);
  longer = omega arith;
  quiet = λ j o. tt;
  out = λ j o h. out_other v.tokens t.iteration j (Kept t) o h;
  traces = λ j o. refl;
}

stop_quiet : (b : Bool) (j : ℕ) → EndNoneOf j (cond b [] (events.Stop ∷ []))
stop_quiet true j = tt
stop_quiet false j = (tt, tt)

pub stop_changes : (i : ℕ) (v : BookState) → Changes i v (after_stop v) (cond (state_of v).stopped [] (events.Stop ∷ []))
stop_changes i v = record {
  program = refl;
  input = refl;
  lists = refl;
  log = events_of_more v.log 0 (cond (state_of v).stopped [] (events.Stop ∷ []));
  longer = longer_with v.log 0 (cond (state_of v).stopped [] (events.Stop ∷ []));
  quiet = λ j o. stop_quiet (state_of v).stopped j;
  out = λ j o h. h;
  traces = λ j o. refl;
}

-- the events of `name_next`
abbrev pub name_events : ℕ → StageEnd → Named → List Event
name_events i end named.Stopped = []
name_events i end named.Ended = stage_end_events i end
name_events i end named.Waits = stage_end_events i end

pub name_changes : (v : BookState) (t : TokenFields) (end : StageEnd) (trace : List Entry) (result : Named)
    → Changes t.iteration v (after_name_next v t end trace result) (name_events t.iteration end result)
name_changes v t end trace named.Stopped = record {
  program = refl;
  input = refl;
  lists = refl;
  log = sym (append-nil _);
  longer = omega arith;
  quiet = λ j o. tt;
  out = λ j o h. out_other v.tokens t.iteration j _ o h;
  traces = λ j o. get_or-set_other v.traces t.iteration j (item_or [] v.traces t.iteration ++ trace ∷ []) [] o;
}
name_changes v t end trace named.Ended = record {
  program = refl;
  input = refl;
  lists = refl;
  log = events_of_more v.log t.now (stage_end_events t.iteration end);
  longer = longer_with v.log t.now (stage_end_events t.iteration end);
  quiet = λ j o. ends_none t.iteration j end o;
  out = λ j o h. out_other v.tokens t.iteration j Spent o h;
  traces = λ j o. get_or-set_other v.traces t.iteration j (item_or [] v.traces t.iteration ++ trace ∷ []) [] o;
}
name_changes v t end trace named.Waits = record {
  program = refl;
  input = refl;
  lists = refl;
  log = events_of_more v.log t.now (stage_end_events t.iteration end);
  longer = longer_with v.log t.now (stage_end_events t.iteration end);
  quiet = λ j o. ends_none t.iteration j end o;
  out = λ j o h. out_other v.tokens t.iteration j _ o h;
  traces = λ j o. get_or-set_other v.traces t.iteration j (item_or [] v.traces t.iteration ++ trace ∷ []) [] o;
}
