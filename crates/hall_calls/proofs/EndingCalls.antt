-- The calls of the book that take in a token, and those that take one in and give it out again.
use Rattle.std.proofs.Common.{◌≡◌, ◌≢◌, ℕ, zero, suc, ◌<◌, ◌⊎◌, ⊎_elim, inl, inr, max, List, [], ◌∷◌, ◌++◌, map, length, get_or, set, refl}
use Rattle.std.proofs.Common.{sym, ap, ap₂, ◌∙◌, subst, arith, cond, eq-eqb, ne_eqb, Option, Some, None, append-nil, append_assoc}
use Rattle.std.proofs.lemmas.List.{length_push, get_or_push, get_or-set_same, set-set, length-set}
use mathlib.Core.Logic.{dite}
use native.Mathlib.Decide.{ℕ_discrete}
use Rattle.pipe_model.specs.declared.event.Event.{Event}
use Rattle.pipe_model.specs.declared.event.Event.TheVariants.{Begin, Advance, Enter, Finish, Stop, Access}
use Rattle.pipe_model.specs.Pipelines.Behaviour.{Action, Ended, Staged}
use Rattle.pipe_model.specs.declared.status.Status.{Status}
use Rattle.pipe_model.specs.declared.status.Status.TheVariants.{Running, Pending, Completed}
use Rattle.pipe_model.specs.declared.ticket.BookEntry.{BookEntry}
use Rattle.pipe_model.specs.declared.ticket.Entry.{Entry}
use Rattle.pipe_model.specs.Races.DeterminacyRaces.{Among}
use Rattle.pipe_model.specs.Runs.Allowed.{ControlAllows, IsRunning}
use Rattle.pipe_model.specs.Runs.ControlRun.{ControlRun}
use Rattle.pipe_model.specs.Runs.RunLogs.{state_after}
use Rattle.pipe_model.specs.Runs.State.{Frame, State, frame_at, next_state, update_frame, with_action}
use Rattle.pipe_model.specs.Runs.TicketLogs.{end_ticket, end_tickets, if_ticket, ticket_at, TimedAction}
use Rattle.pipe_model.specs.Runs.TicketOrder.{end_ticket_of, start_ticket_of}
use Rattle.pipe_frame.specs.TokenFields.{TokenFields}
use Rattle.run_laws.proofs.LogMerge.InstanceCounts.{ended_by_status}
use Rattle.run_laws.proofs.LogMerge.InstanceTickets.{end_tickets-append, ticket_within}
use Rattle.run_laws.proofs.RunStates.Frames.{frame_at_updated, frame_at_within, length-update_frame}
use Rattle.frame_book.specs.BookStates.{BookState, HasRisingTickets, Kept, Out, Spent, TokenState, timed_access, events_of, item_or}
use Rattle.frame_book.specs.BookStates.{last_ticket, made, replies_at, state_of, with_events}
use Rattle.frame_book.specs.GivenTokens.{IsGivenBeside, IsOutOf}
use Rattle.frame_book.proofs.BookLogs.LogEntries.{events_of_with, last_ticket_with}
use Rattle.hall_table.specs.SeatViews.{HallConstants, InstanceData, constants_of}
use Rattle.hall_table.specs.Logs.{book_trace, trace_by, with_at}
use Rattle.hall_table.specs.BookParts.{KnowsInstance, IsTimelyTrace, StartedBy}
use Rattle.hall_table.specs.Steps.{new_instance}
use Rattle.hall_table.specs.BookCalls.{IsIterationAfter, IsBookCall}
use Rattle.pipe_model.specs.declared.node.Kind.TheVariants.{Wait, Continue}
use Rattle.pipe_model.specs.declared.stage.StageEnd.{StageEnd}
use Rattle.pipe_model.specs.declared.stage.StageEnd.TheVariants as stage_ends
use Rattle.pipe_model.specs.declared.column.ColumnEnd.TheVariants as column_ends
use Rattle.pipe_model.specs.Runs.StageEnds.{stage_end_events}
use Rattle.pipe_frame.specs.CallResults.{pending_events, resume_events}
use Rattle.pipe_frame.specs.StageEndCases.{EndsIteration, EntersAtOnce, MustWait}
use Rattle.frame_book.specs.CallEffects.{kept_now, with_resumed}
use Rattle.hall_table.proofs.Boards.{with_here}
use Rattle.hall_table.proofs.Sharding.{among_timed}
use Rattle.hall_table.proofs.CallEffects.{start_stays, seats_after_call}
use Rattle.hall_calls.proofs.BookCalls.{IsOf, ended_count, enter_call, enter_iteration, event_moves, last_event, last_of, parts_are, past}
use Rattle.hall_calls.proofs.BookCalls.{push_other, quiet_moves, resume_call, state_is, timely_stays}
use Rattle.hall_shards.proofs.ListItems.{set_other}

-- ---- an instance has ended

-- the event ends the instance of iteration i
abbrev pub EndsOf : ℕ → Event → Type 0
EndsOf i (Begin j) = ⊥
EndsOf i (Access j a) = ⊥
EndsOf i (Advance j k n) = j ≡ i
EndsOf i (Enter j) = ⊥
EndsOf i (Finish j e) = j ≡ i
EndsOf i Stop = ⊥

ends_of : (i : ℕ) (e : Event) → EndsOf i e → IsOf i e
ends_of i (Begin j) h = absurd h
ends_of i (Access j a) h = absurd h
ends_of i (Advance j k n) h = h
ends_of i (Enter j) h = absurd h
ends_of i (Finish j e) h = h
ends_of i Stop h = absurd h

end_here : (i : ℕ) (e : Event) (t : ℕ) → EndsOf i e → end_ticket i e t ≡ t ∷ []
end_here i (Begin j) t h = absurd h
end_here i (Access j a) t h = absurd h
end_here i (Advance j k n) t h = ap (λ b. if_ticket b t) (eq-eqb j i h)
end_here i (Enter j) t h = absurd h
end_here i (Finish j e) t h = ap (λ b. if_ticket b t) (eq-eqb j i h)
end_here i Stop t h = absurd h

pending_stops : (s : State) (i j : ℕ) (f : Frame) (x : Action) (w : Status) → frame_at s.frames j ≡ Some f → j ≡ i
    → IsRunning (record s { frames = update_frame s.frames j (with_action x w) }) i → (w ≡ Running → ⊥) → ⊥
pending_stops s i j f x w is same r never =
    let q = frame_at_updated s.frames j f (with_action x w) is in
    let z : Some (with_action x w f) ≡ Some r.frame = sym q
    ∙ (ap (λ m. frame_at (update_frame s.frames j (with_action x w)) m) same ∙ r.is) in
    let y : with_action x w f ≡ r.frame = cc in
    never (ap (λ (g : Frame). g.status) y ∙ r.runs)

-- afterwards it does not run
not_running : (limit : ℕ) (s : State) (i : ℕ) (e : Event) → EndsOf i e → ControlAllows limit s e → IsRunning (next_state s e) i → ⊥
not_running limit s i (Begin j) h may r = h
not_running limit s i (Access j a) h may r = h
not_running limit s i (Enter j) h may r = h
not_running limit s i Stop h may r = h
not_running limit s i (Advance j k n) h may r = pending_stops s i j may.running.frame (Staged k n) (Pending k n) may.running.is h r
    (λ e. (let z : Pending k n ≡ Running = e in cc))
not_running limit s i (Finish j e) h may r = pending_stops s i j may.running.frame (Ended e) (Completed e) may.running.is h r
    (λ q. (let z : Completed e ≡ Running = q in cc))

frames_after : (s : State) (i : ℕ) (e : Event) → EndsOf i e → length (next_state s e).frames ≡ length s.frames
frames_after s i (Begin j) h = absurd h
frames_after s i (Access j a) h = absurd h
frames_after s i (Enter j) h = absurd h
frames_after s i Stop h = absurd h
frames_after s i (Advance j k n) h = length-update_frame s.frames j _
frames_after s i (Finish j e) h = length-update_frame s.frames j _

at_last_ticket : (xs : List ℕ) (t k end : ℕ) → ticket_at (xs ++ t ∷ []) k ≡ Some end → k ≡ length xs → end ≡ t
at_last_ticket [] t zero end e l = let z : Some t ≡ Some end = e in cc
at_last_ticket [] t (suc k) end e l = absurd (omega (arith, l))
at_last_ticket (x ∷ xs) t zero end e l = absurd (omega (arith, l))
at_last_ticket (x ∷ xs) t (suc k) end e l = at_last_ticket xs t k end e (omega (arith, l))

at_old_ticket : (xs ys : List ℕ) (k end : ℕ) → ticket_at (xs ++ ys) k ≡ Some end → k < length xs → ticket_at xs k ≡ Some end
at_old_ticket [] ys k end e l = absurd (omega (arith, l))
at_old_ticket (x ∷ xs) ys zero end e l = e
at_old_ticket (x ∷ xs) ys (suc k) end e l = at_old_ticket xs ys k end e (omega (arith, l))

-- the traces with one more
module _ (b c : BookState) (d : InstanceData) (w : TokenState) (constants : constants_of c ≡ constants_of b)
    (toks : c.tokens ≡ set b.tokens d.fields.iteration w)
    (trs : c.traces ≡ set b.traces d.fields.iteration (item_or [] b.traces d.fields.iteration ++ d.entries ∷ [])) where
  abbrev di : ℕ
  di = d.fields.iteration

  abbrev ts : List (List Entry)
  ts = item_or [] b.traces di

  ended_tokens : (j : ℕ) → j ≢ di → item_or Spent c.tokens j ≡ item_or Spent b.tokens j
  ended_tokens j ne = ap (λ l. get_or l j Spent) toks ∙ set_other b.tokens di j w Spent ne

  ended_traces : (j : ℕ) → j ≢ di → item_or [] c.traces j ≡ item_or [] b.traces j
  ended_traces j ne = ap (λ l. get_or l j []) trs ∙ set_other b.traces di j _ [] ne

  module _ (h : KnowsInstance b d) (lt : length b.tokens ≡ length (state_of b).frames) (lr : length b.traces ≡ length (state_of b).frames)
    where
      inside : di < length (state_of b).frames
      inside = frame_at_within (state_of b).frames di h.out.token.running.frame h.out.token.running.is

      token_now : item_or Spent c.tokens di ≡ w
      token_now = ap (λ l. get_or l di Spent) toks ∙ get_or-set_same b.tokens di w Spent (let l = inside in omega (arith, l, lt))

      traces_now : item_or [] c.traces di ≡ ts ++ d.entries ∷ []
      traces_now = ap (λ l. get_or l di []) trs ∙ get_or-set_same b.traces di (ts ++ d.entries ∷ []) []
          (let l = inside in omega (arith, l, lr))

      count : length ts ≡ d.fields.index
      count = let p = parts_are b di in let q = ap length h.replies in let r = h.parts in omega (arith, p, q, r)

      trace_at : book_trace c di d.fields.index ≡ d.entries
      trace_at = ap (λ l. get_or l d.fields.index []) traces_now ∙ get_or_push ts d.entries [] d.fields.index count

      trace_else : (n : ℕ) → n ≢ d.fields.index → book_trace c di n ≡ book_trace b di n
      trace_else n ne = ap (λ l. get_or l n []) traces_now ∙ push_other ts d.entries [] n (λ z. ne (z ∙ count))

      trace_same_as : (n : ℕ) → trace_by c None di n ≡ trace_by b (Some d) di n
      trace_same_as n = dite (ℕ_discrete n d.fields.index)
          (λ z. ap (book_trace c di) z ∙ (trace_at ∙ sym (ap (λ t. cond t d.entries (book_trace b di n))
          (eq-eqb d.fields.index n (sym z)))))
          (λ ne. trace_else n ne ∙ sym (ap (λ t. cond t d.entries (book_trace b di n)) (ne_eqb d.fields.index n (λ z. ne (sym z)))))

      -- the trace of the instance itself
      own_timely : (added : List BookEntry) → c.log ≡ b.log ++ added
          → ((end : ℕ) → end_ticket_of c.log di d.fields.index ≡ Some end → d.fields.now < end) → IsTimelyTrace c di d.fields.index
      own_timely added log later =
          let same : made c.traces di d.fields.index ≡ map timed_access d.entries = ap (map timed_access) trace_at in
          record {
            rise = rw same h.rise;
            from_start = λ x m. (
                let t = among_timed x d.entries (subst (λ l. Among x l) same m) in
                let q = h.from_start t.0 t.1 in
                let z = ap (λ (u : TimedAction). u.ticket) t.2 in (
                  q.0,
                  subst (λ l. start_ticket_of l di d.fields.index ≡ Some q.0) (sym log)
                      (start_stays b.log added di d.fields.index q.0 q.1),
                  (let l = q.2 in omega (arith, l, z)),
                ));
            to_end = λ x end m e. (
                let t = among_timed x d.entries (subst (λ l. Among x l) same m) in
                let l = h.to_now t.0 t.1 in
                let z = ap (λ (u : TimedAction). u.ticket) t.2 in
                let y = later end e in
                omega (arith, l, z, y));
          }

  pub ended_call : (e : Event) → EndsOf di e → (w ≡ Out → ⊥) → c.log ≡ with_events b.log d.fields.now (e ∷ [])
      → ControlRun c.limit (events_of c.log) (state_of c) → HasRisingTickets c.log
      → IsBookCall b (Some d) c None
  ended_call e ends not_out log control rise =
      let of = ends_of di e ends in
      let moves = event_moves b c di e d.fields.now constants log ended_tokens ended_traces of control in
      let state = state_is b c di e d.fields.now constants log ended_tokens ended_traces of control in
      let may = (last_event b c di e d.fields.now constants log ended_tokens ended_traces of control).allows in
      let frames : length (state_of c).frames ≡ length (state_of b).frames = ap (λ (s : State). length s.frames) state
      ∙ frames_after (state_of b) di e ends in
      let new = suc (max (last_ticket b.log) d.fields.now) in
      let tickets : end_tickets di c.log ≡ end_tickets di b.log ++ new ∷ [] = ap (end_tickets di) log
      ∙ (end_tickets-append di b.log _ ∙ ap (λ l. end_tickets di b.log ++ l)
      (append-nil (end_ticket di e new) ∙ end_here di e new ends)) in
      record {
        iteration = di;
        moves = moves;
        own = λ x q. (let z : d ≡ x = cc in ap (λ (r : InstanceData). r.fields.iteration) (sym z));
        free = λ seats h q o. absurd (let z : Some d ≡ None = q in cc);
        here = λ seats h at. (
            let r = (h.run di d at).1 in
            let f = r.out.token.running in
            let ended : length (end_tickets di b.log) ≡ d.fields.index =
            (let z = ended_count b h.control di f.frame f.is in let y = ap (λ s. ended_by_status s (length f.frame.nodes)) f.runs in
            let x = r.out.token.index in omega (arith, z, y, x)) in
            record {
              run = λ x q. absurd (let z : None ≡ Some x = q in cc);
              out = λ o. absurd (not_out (sym (token_now r h.tokens h.traces) ∙ o));
              timely = λ k. dite (ℕ_discrete k d.fields.index)
                  (λ z. subst (λ n. IsTimelyTrace c di n) (sym z) (own_timely r h.tokens h.traces moves.added moves.log (λ end q. (
                  let l = at_last_ticket (end_tickets di b.log) new d.fields.index end
                  (subst (λ l. ticket_at l d.fields.index ≡ Some end) tickets q) (sym ended) in
                  omega (arith, l)))))
                  (λ ne. timely_stays b c moves.added di k moves.log (trace_else r h.tokens h.traces k ne) (λ end q. (
                  let q' = subst (λ l. ticket_at l k ≡ Some end) tickets q in
                  let inside' = ticket_within (end_tickets di b.log ++ new ∷ []) k end q' in
                  let long = length_push (end_tickets di b.log) new in
                  at_old_ticket (end_tickets di b.log) (new ∷ []) k end q'
                  (let z : k ≢ d.fields.index = ne in omega (arith, inside', long, ended, z)))) (h.timely di k));
              kept = λ g q x. absurd (not_running c.limit (state_of b) di e ends may (subst (λ s. IsRunning s di) state x));
              traces = trace_same_as r h.tokens h.traces;
              control = control;
              rises = rise;
              tokens = (let y = ap length toks ∙ length-set b.tokens di w in let z = h.tokens in omega (arith, y, z, frames));
              counts = (let y = ap length trs ∙ length-set b.traces di _ in let z = h.traces in omega (arith, y, z, frames));
            });
      }

  -- a stopped book keeps the token and the trace
  pub held_call : w ≡ Kept d.fields → c.log ≡ b.log → IsBookCall b (Some d) c None
  held_call held log = record {
    iteration = di;
    moves = quiet_moves b c di constants log ended_tokens ended_traces;
    own = λ x q. (let z : d ≡ x = cc in ap (λ (r : InstanceData). r.fields.iteration) (sym z));
    free = λ seats h q o. absurd (let z : Some d ≡ None = q in cc);
    here = λ seats h at. (
        let r = (h.run di d at).1 in
        let f = r.out.token.running in
        let limit : c.limit ≡ b.limit = ap (λ (a : HallConstants). a.limit) constants in
        let state : state_of c ≡ state_of b = ap (λ l. state_after (events_of l)) log in
        let frames = ap (λ (s : State). length s.frames) state in
        let ended : length (end_tickets di b.log) ≡ d.fields.index =
        (let z = ended_count b h.control di f.frame f.is in let y = ap (λ s. ended_by_status s (length f.frame.nodes)) f.runs in
        let x = r.out.token.index in omega (arith, z, y, x)) in
        record {
          run = λ x q. absurd (let z : None ≡ Some x = q in cc);
          out = λ o. absurd (let z : Kept d.fields ≡ Out = sym held ∙ (sym (token_now r h.tokens h.traces) ∙ o) in cc);
          timely = λ k. dite (ℕ_discrete k d.fields.index)
              (λ z. subst (λ n. IsTimelyTrace c di n) (sym z) (own_timely r h.tokens h.traces [] (log ∙ sym (append-nil b.log))
              (λ end q. absurd (
              let l = ticket_within (end_tickets di b.log) d.fields.index end
              (subst (λ l. end_ticket_of l di d.fields.index ≡ Some end) log q) in omega (arith, l, ended)))))
              (λ ne. timely_stays b c [] di k (log ∙ sym (append-nil b.log)) (trace_else r h.tokens h.traces k ne)
              (λ end q. subst (λ l. end_ticket_of l di k ≡ Some end) log q) (h.timely di k));
          kept = λ g q x. (
              let z : Kept d.fields ≡ Kept g = sym held ∙ (sym (token_now r h.tokens h.traces) ∙ q) in
              let y : d.fields ≡ g = cc in
              subst (λ (t : TokenFields). StartedBy c.log di t.index t.now) y
              (subst (λ l. StartedBy l di d.fields.index d.fields.now) (sym log) r.started));
          traces = trace_same_as r h.tokens h.traces;
          control = subst (λ l. ControlRun c.limit (events_of l) (state_after (events_of l))) (sym log)
              (subst (λ k. ControlRun k (events_of b.log) (state_of b)) (sym limit) h.control);
          rises = subst HasRisingTickets (sym log) h.rises;
          tokens = (let y = ap length toks ∙ length-set b.tokens di w in let z = h.tokens in omega (arith, y, z, frames));
          counts = (let y = ap length trs ∙ length-set b.traces di _ in let z = h.traces in omega (arith, y, z, frames));
        });
  }

-- ---- a token is left ready

pub left_call : (b c : BookState) (d : InstanceData) → constants_of c ≡ constants_of b → c.tokens ≡ set b.tokens d.fields.iteration
    (Kept d.fields) → c.traces ≡ b.traces → c.log ≡ b.log → d.entries ≡ [] → IsBookCall b (Some d) c None
left_call b c d constants toks trs log fresh =
    let i = d.fields.iteration in
    record {
      iteration = i;
      moves = quiet_moves b c i constants log (λ j ne. ap (λ l. get_or l j Spent) toks ∙ set_other b.tokens i j (Kept d.fields) Spent ne)
          (λ j ne. ap (λ l. get_or l j []) trs);
      own = λ x q. (let z : d ≡ x = cc in ap (λ (r : InstanceData). r.fields.iteration) (sym z));
      free = λ seats h q o. absurd (let z : Some d ≡ None = q in cc);
      here = λ seats h at. (
          let r = (h.run i d at).1 in
          let f = r.out.token.running in
          let limit : c.limit ≡ b.limit = ap (λ (a : HallConstants). a.limit) constants in
          let state : state_of c ≡ state_of b = ap (λ l. state_after (events_of l)) log in
          let frames = ap (λ (s : State). length s.frames) state in
          let l = frame_at_within (state_of b).frames i f.frame f.is in
          let lt = h.tokens in
          let now : item_or Spent c.tokens i ≡ Kept d.fields = ap (λ l. get_or l i Spent) toks
          ∙ get_or-set_same b.tokens i (Kept d.fields) Spent (omega (arith, l, lt)) in
          let count : length (item_or [] b.traces i) ≡ d.fields.index =
          (let p = parts_are b i in let q = ap length r.replies in let z = r.parts in omega (arith, p, q, z)) in
          record {
            run = λ x q. absurd (let z : None ≡ Some x = q in cc);
            out = λ o. absurd (let z : Kept d.fields ≡ Out = sym now ∙ o in cc);
            timely = λ k. timely_stays b c [] i k (log ∙ sym (append-nil b.log)) (ap (λ ts. get_or (get_or ts i []) k []) trs)
                (λ end q. subst (λ l. end_ticket_of l i k ≡ Some end) log q) (h.timely i k);
            kept = λ g q x. (
                let z : Kept d.fields ≡ Kept g = sym now ∙ q in
                let y : d.fields ≡ g = cc in
                subst (λ (t : TokenFields). StartedBy c.log i t.index t.now) y
                (subst (λ l. StartedBy l i d.fields.index d.fields.now) (sym log) r.started));
            traces = λ n. (
                let old : book_trace c i n ≡ book_trace b i n = ap (λ ts. get_or (get_or ts i []) n []) trs in
                dite (ℕ_discrete n d.fields.index)
                (λ z. old ∙ (past (item_or [] b.traces i) n [] (omega (arith, count, z))
                ∙ (sym fresh ∙ sym (ap (λ t. cond t d.entries (book_trace b i n)) (eq-eqb d.fields.index n (sym z))))))
                (λ ne. old ∙ sym (ap (λ t. cond t d.entries (book_trace b i n)) (ne_eqb d.fields.index n (λ z. ne (sym z))))));
            control = subst (λ l. ControlRun c.limit (events_of l) (state_after (events_of l))) (sym log)
                (subst (λ k. ControlRun k (events_of b.log) (state_of b)) (sym limit) h.control);
            rises = subst HasRisingTickets (sym log) h.rises;
            tokens = (let y = ap length toks ∙ length-set b.tokens i _ in let z = h.tokens in omega (arith, y, z, frames));
            counts = (let y = ap length trs in let z = h.traces in omega (arith, y, z, frames));
          });
    }

-- ---- two calls of one iteration

pub both_turns : (b m c : BookState) (back given : Option InstanceData) (t : IsBookCall b back m None) (u : IsBookCall m None c given)
    → u.iteration ≡ t.iteration
    → IsBookCall b back c given
both_turns b m c back given t u same =
    let i = t.iteration in
    let v = t.moves in
    let w = u.moves in
    let other : (j : ℕ) → j ≢ i → j ≢ u.iteration = λ j ne z. ne (z ∙ same) in
    record {
      iteration = i;
      moves = record {
        constants = w.constants ∙ v.constants;
        added = v.added ++ w.added;
        log = w.log ∙ (ap (λ l. l ++ w.added) v.log ∙ append_assoc b.log v.added w.added);
        tokens = λ j ne. w.tokens j (other j ne) ∙ v.tokens j ne;
        traces = λ j ne. w.traces j (other j ne) ∙ v.traces j ne;
        stays = λ x ne h. w.stays x (other x.iteration ne) (v.stays x ne h);
        runs = λ j ne h. v.runs j ne (w.runs j (other j ne) h);
        ends = λ j k end ne h. v.ends j k end ne (w.ends j k end (other j ne) h);
        starts = λ x h. w.starts x (v.starts x h);
        marks = λ x h. w.marks x (v.starts x h) ∙ v.marks x h;
        joins = λ x h. w.joins x (v.starts x h) ∙ v.joins x h;
      };
      own = t.own;
      free = t.free;
      here = λ seats h at. (
          let h' = seats_after_call b m back None seats t h at in
          let none : with_at seats i None u.iteration ≡ None = ap (with_at seats i None) same ∙ with_here seats i None in
          let first = t.here seats h at in
          let p = subst (λ n. IsIterationAfter m None c given n) same (u.here (with_at seats i None) h' none) in
          record {
            run = p.run;
            out = p.out;
            timely = p.timely;
            kept = p.kept;
            traces = λ n. p.traces n ∙ first.traces n;
            control = p.control;
            rises = p.rises;
            tokens = p.tokens;
            counts = p.counts;
          });
    }

-- ---- `rescue`

-- an iteration that goes on enters a stage, or makes no event
goes_on_by : (o : Option Frame) (i : ℕ) → (resume_events o i ≡ []) ⊎ (resume_events o i ≡ Enter i ∷ [])
goes_on_by None i = inl refl
goes_on_by (Some f) i = by f.status
  where
    by : (w : Status) → (pending_events w i ≡ []) ⊎ (pending_events w i ≡ Enter i ∷ [])
    by Running = inl refl
    by (Pending k n) = inr refl
    by (Completed e) = inl refl

pub rescued_call : (b c : BookState) (f : TokenFields) → c ≡ with_resumed b f.iteration → ControlRun c.limit (events_of c.log) (state_of c)
    → HasRisingTickets c.log
    → IsOutOf c f → length (replies_at c f.iteration) ≡ f.index
    → IsGivenBeside (resume_events (frame_at (state_of b).frames f.iteration) f.iteration) b c f
    → IsBookCall b None c (Some (new_instance c f))
rescued_call b c f is control rise out parts beside =
    let i = f.iteration in
    let es = resume_events (frame_at (state_of b).frames i) i in
    let now = kept_now (item_or Spent b.tokens i) in
    let constants = ap constants_of is in
    let toks = ap (λ (x : BookState). x.tokens) is in
    let trs = ap (λ (x : BookState). x.traces) is in
    let log : c.log ≡ with_events b.log now es = ap (λ (x : BookState). x.log) is in
    ⊎_elim
    (λ (e : es ≡ []). resume_call b c f constants toks trs out parts (log ∙ (ap (with_events b.log now) e ∙ append-nil b.log))
    (subst (λ l. IsGivenBeside l b c f) e beside))
    (λ (e : es ≡ Enter i ∷ []). enter_call b c f constants toks trs out parts now (log ∙ ap (with_events b.log now) e) control rise
    (subst (λ l. IsGivenBeside l b c f) e beside))
    (goes_on_by (frame_at (state_of b).frames i) i)

-- its events
pub resumed_events : (b : BookState) (i : ℕ) → events_of (with_resumed b i).log ≡ events_of b.log ++ resume_events
    (frame_at (state_of b).frames i) i
resumed_events b i =
    let es = resume_events (frame_at (state_of b).frames i) i in
    let now = kept_now (item_or Spent b.tokens i) in
    ⊎_elim
    (λ (e : es ≡ []). ap (λ l. events_of (with_events b.log now l)) e
    ∙ (ap events_of (append-nil b.log) ∙ (sym (append-nil (events_of b.log)) ∙ ap (λ l. events_of b.log ++ l) (sym e))))
    (λ (e : es ≡ Enter i ∷ []). ap (λ l. events_of (with_events b.log now l)) e
    ∙ (events_of_with b.log now (Enter i) ∙ ap (λ l. events_of b.log ++ l) (sym e)))
    (goes_on_by (frame_at (state_of b).frames i) i)

-- ---- `advance`

-- the event that ends an instance which did not stop
pub record EndEvent (i : ℕ) (end : StageEnd) : Type 0 where
  pub event : Event
  pub is : stage_end_events i end ≡ event ∷ []
  pub ends : EndsOf i event

pub end_event : (i : ℕ) (end : StageEnd) → (end ≡ stage_ends.Stopped → ⊥) → EndEvent i end
end_event i (stage_ends.Wait n) h = record { event = Advance i Wait n; is = refl; ends = refl }
end_event i (stage_ends.Continue n) h = record { event = Advance i Continue n; is = refl; ends = refl }
end_event i stage_ends.End h = record { event = Finish i column_ends.End; is = refl; ends = refl }
end_event i stage_ends.Closed h = record { event = Finish i column_ends.Closed; is = refl; ends = refl }
end_event i (stage_ends.Trap t) h = record { event = Finish i (column_ends.Trapped t); is = refl; ends = refl }
end_event i stage_ends.Stopped h = absurd (h refl)

front_same : {A : Type 0} (xs : List A) (x : A) (i : ℕ) (d : A) → i < length xs → get_or (xs ++ x ∷ []) i d ≡ get_or xs i d
front_same [] x i d l = absurd (omega (arith, l))
front_same (y ∷ xs) x zero d l = refl
front_same (y ∷ xs) x (suc i) d l = front_same xs x i d (omega (arith, l))

-- rising tickets of a shorter log
rise_less : (log : List BookEntry) (e : BookEntry) → HasRisingTickets (log ++ e ∷ []) → HasRisingTickets log
rise_less log e h i j d l w =
    let long = length_push log e in
    let q = h i j d l (omega (arith, w, long)) in
    let x = ap (λ (y : BookEntry). y.ticket) (front_same log e i d (omega (arith, l, w))) in
    let z = ap (λ (y : BookEntry). y.ticket) (front_same log e j d w) in
    omega (arith, q, x, z)

-- two events are one after the other
two_logs : (log : List BookEntry) (now : ℕ) (e f : Event) → with_events log now (e ∷ f ∷ []) ≡ with_events (with_events log now (e ∷ []))
    (last_ticket (with_events log now (e ∷ []))) (f ∷ [])
two_logs log now e f =
    let m = with_events log now (e ∷ []) in
    let last = last_ticket_with log now e in
    let t : suc (suc (max (last_ticket log) now)) ≡ suc (max (last_ticket m) (last_ticket m)) = omega (arith, last) in
    sym (append_assoc log _ _) ∙ ap (λ k. m ++ record { ticket = k; event = f } ∷ []) t

-- the token goes on at once
pub went_call : (b c : BookState) (d : InstanceData) (f : TokenFields) (e : Event) → constants_of c ≡ constants_of b
    → c.tokens ≡ set b.tokens d.fields.iteration Out
    → c.traces ≡ set b.traces d.fields.iteration (item_or [] b.traces d.fields.iteration ++ d.entries ∷ [])
    → c.log ≡ with_events b.log d.fields.now (e ∷ Enter d.fields.iteration ∷ []) → EndsOf d.fields.iteration e
    → ControlRun c.limit (events_of c.log) (state_of c) → HasRisingTickets c.log → f.iteration ≡ d.fields.iteration → IsOutOf c f
    → length (replies_at c f.iteration) ≡ f.index → f.now ≡ last_ticket c.log
    → IsBookCall b (Some d) c (Some (new_instance c f))
unfolding ended_call
went_call b c d f e constants toks trs log ends control rise same out parts now =
    let i = d.fields.iteration in
    let mlog = with_events b.log d.fields.now (e ∷ []) in
    let m : BookState = record b {
      log = mlog;
      tokens = set b.tokens i (Kept d.fields);
      traces =
          set b.traces i (item_or [] b.traces i ++ d.entries ∷ []);
    } in
    let log' : c.log ≡ with_events mlog (last_ticket mlog) (Enter i ∷ []) = log ∙ two_logs b.log d.fields.now e (Enter i) in
    let events : events_of c.log ≡ events_of mlog ++ Enter i ∷ [] = ap events_of log' ∙ events_of_with mlog (last_ticket mlog) (Enter i) in
    let limit : c.limit ≡ b.limit = ap (λ (a : HallConstants). a.limit) constants in
    let control_m : ControlRun m.limit (events_of m.log) (state_of m) =
    subst (λ k. ControlRun k (events_of mlog) (state_after (events_of mlog))) limit
    (last_of control (events_of mlog) (Enter i) events).run in
    let rise_m : HasRisingTickets m.log = rise_less mlog _ (subst HasRisingTickets log' rise) in
    let t = ended_call b m d (Kept d.fields) refl refl refl e ends (λ z. (let q : Kept d.fields ≡ Out = z in cc)) refl control_m rise_m in
    let entered : c.tokens ≡ set m.tokens f.iteration Out =
    (toks ∙ (sym (set-set b.tokens i (Kept d.fields) Out) ∙ ap (λ k. set (set b.tokens i (Kept d.fields)) k Out) (sym same))) in
    let later : c.log ≡ with_events mlog (last_ticket mlog) (Enter f.iteration ∷ []) =
    (log' ∙ ap (λ k. with_events mlog (last_ticket mlog) (Enter k ∷ [])) (sym same)) in
    let u = enter_call m c f constants entered trs out parts (last_ticket mlog) later control rise now in
    let here = enter_iteration m c f constants entered trs out parts (last_ticket mlog) later control rise now in
    both_turns b m c (Some d) (Some (new_instance c f)) t u (here ∙ same)

-- a book after `advance`, over plain data
abbrev pub advanced_book : BookState → TokenFields → List Entry → List Event → TokenState → ℕ → BookState
advanced_book b f trace es w reads = record b {
  log = with_events b.log f.now es;
  traces = set b.traces f.iteration (item_or [] b.traces f.iteration ++ trace ∷ []);
  tokens = set b.tokens f.iteration w;
  reads = reads;
}

module _ (b c : BookState) (d : InstanceData) (f : TokenFields) (trace : List Entry) (end : StageEnd) (w : TokenState) (reads : ℕ)
    (sf : d.fields ≡ f) (st : d.entries ≡ trace) where
  toks_of : (es : List Event) → c ≡ advanced_book b f trace es w reads → c.tokens ≡ set b.tokens d.fields.iteration w
  toks_of es e = ap (λ (x : BookState). x.tokens) e ∙ ap (λ (g : TokenFields). set b.tokens g.iteration w) (sym sf)

  trs_of : (es : List Event) → c ≡ advanced_book b f trace es w reads → c.traces ≡ set b.traces d.fields.iteration
      (item_or [] b.traces d.fields.iteration ++ d.entries ∷ [])
  trs_of es e = ap (λ (x : BookState). x.traces) e ∙ ap₂
      (λ (g : TokenFields) t. set b.traces g.iteration (item_or [] b.traces g.iteration ++ t ∷ [])) (sym sf) (sym st)

  log_of : (es : List Event) → c ≡ advanced_book b f trace es w reads → c.log ≡ with_events b.log d.fields.now es
  log_of es e = ap (λ (x : BookState). x.log) e ∙ ap (λ (g : TokenFields). with_events b.log g.now es) (sym sf)

  pub finishes : (end ≡ stage_ends.Stopped → ⊥) → (w ≡ Out → ⊥) → c ≡ advanced_book b f trace (stage_end_events f.iteration end) w reads
      → ControlRun c.limit (events_of c.log) (state_of c) → HasRisingTickets c.log
      → IsBookCall b (Some d) c None
  finishes goes not_out e control rise =
      let q = end_event f.iteration end goes in
      let e' : c ≡ advanced_book b f trace (q.event ∷ []) w reads = e ∙ ap (λ es. advanced_book b f trace es w reads) q.is in
      ended_call b c d w (ap constants_of e) (toks_of (q.event ∷ []) e') (trs_of (q.event ∷ []) e') q.event
      (subst (λ (g : TokenFields). EndsOf g.iteration q.event) (sym sf) q.ends) not_out (log_of (q.event ∷ []) e') control rise

  pub holds_back : w ≡ Kept f → c ≡ advanced_book b f trace [] w reads → IsBookCall b (Some d) c None
  holds_back kept e = held_call b c d w (ap constants_of e) (toks_of [] e) (trs_of [] e) (kept ∙ ap (λ g. Kept g) (sym sf))
      (log_of [] e ∙ append-nil b.log)

  pub goes_on : (u : TokenFields) → (end ≡ stage_ends.Stopped → ⊥) → w ≡ Out → c ≡ advanced_book b f trace
      (stage_end_events f.iteration end ++ Enter f.iteration ∷ []) w reads → ControlRun c.limit (events_of c.log) (state_of c)
      → HasRisingTickets c.log
      → u.iteration ≡ f.iteration → IsOutOf c u → length (replies_at c u.iteration) ≡ u.index → u.now ≡ last_ticket c.log
      → IsBookCall b (Some d) c (Some (new_instance c u))
  goes_on u goes is_out e control rise same out parts now =
      let q = end_event f.iteration end goes in
      let es = q.event ∷ Enter f.iteration ∷ [] in
      let e' : c ≡ advanced_book b f trace es w reads = e ∙ ap (λ l. advanced_book b f trace (l ++ Enter f.iteration ∷ []) w reads) q.is in
      let it : f.iteration ≡ d.fields.iteration = ap (λ (g : TokenFields). g.iteration) (sym sf) in
      went_call b c d u q.event (ap constants_of e) (toks_of es e' ∙ ap (λ x. set b.tokens d.fields.iteration x) is_out) (trs_of es e')
      (log_of es e' ∙ ap (λ n. with_events b.log d.fields.now (q.event ∷ Enter n ∷ [])) it)
      (subst (λ n. EndsOf n q.event) it q.ends) control rise (same ∙ it) out parts now

-- an end that ends or names
pub ends_not_stopped : (end : StageEnd) → EndsIteration end → end ≡ stage_ends.Stopped → ⊥
ends_not_stopped end h e = subst EndsIteration e h

pub waits_not_stopped : (s : State) (i : ℕ) (end : StageEnd) → MustWait s i end → end ≡ stage_ends.Stopped → ⊥
waits_not_stopped s i end h e = subst (MustWait s i) e h

pub enters_not_stopped : (s : State) (i : ℕ) (end : StageEnd) → EntersAtOnce s i end → end ≡ stage_ends.Stopped → ⊥
enters_not_stopped s i end h e = subst (EntersAtOnce s i) e h
