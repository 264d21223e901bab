-- A book after the end of an instance, by how its iteration goes on.
use Rattle.std.proofs.Common.{◌≡◌, ◌≢◌, ℕ, ℤ, zero, suc, ◌+◌, List, [], ◌∷◌, ◌++◌, max, set, refl, ap, ap₂, sym, ◌∙◌, true, false, cond}
use Rattle.std.proofs.Common.{Option, arith, not, ◌&&◌, append-nil}
use Rattle.pipe_model.specs.declared.column.ColumnEnd.{ColumnEnd}
use Rattle.pipe_model.specs.declared.column.ColumnEnd.TheVariants as ends
use Rattle.pipe_model.specs.declared.event.Event.TheVariants.{Advance, Finish}
use Rattle.pipe_model.specs.declared.node.Kind.{Kind}
use Rattle.pipe_model.specs.declared.node.Kind.TheVariants.{Zero, Wait, Continue}
use Rattle.pipe_model.specs.declared.stage.Counter.{Counter}
use Rattle.pipe_model.specs.declared.stage.StageEnd.{StageEnd}
use Rattle.pipe_model.specs.declared.ticket.Entry.{Entry}
use Rattle.pipe_model.specs.Pipelines.Behaviour.{Staged, Ended}
use Rattle.pipe_model.specs.Runs.StageEnds.{stage_end_actions, stage_end_events}
use Rattle.pipe_frame.specs.LeftCounters.{must_read_left}
use Rattle.pipe_frame.specs.StageEndCases.{EndsIteration, NamesNextStage}
use Rattle.pipe_frame.specs.TokenFields.{TokenFields}
use Rattle.pipe_frame.specs.declared.results.Named.TheVariants as named
use Rattle.pipe_frame.specs.declared.results.Next.TheVariants as next
use Rattle.frame_rows.specs.Courses.{last_end}
use Rattle.frame_rows.specs.NamedStages.{stage_end}
use Rattle.frame_book.specs.BookStates.{BookState, Kept, Spent, state_of, with_events, last_ticket, item_or}
use Rattle.frame_book.specs.CallEffects.{after_advance, after_name_next, reads_left, with_finished, with_held, with_named}
use Rattle.frame_book.proofs.Conditions.AdvancedStates.{reads_is}
use Rattle.frame_book.proofs.Conditions.KeptCounters.{end_is}

-- ---- ends that name a stage

pub stage_actions : (k : Kind) (n : ℤ) → k ≢ Zero → stage_end_actions (stage_end k n) ≡ Staged k n ∷ []
stage_actions Wait n h = refl
stage_actions Continue n h = refl
stage_actions Zero n h = absurd (h refl)

pub names_next : (k : Kind) (n : ℤ) → NamesNextStage (stage_end k n)
names_next Wait n = tt
names_next Continue n = tt
names_next Zero n = tt

-- ---- ends of iterations

pub last_actions : (e : ColumnEnd) → stage_end_actions (last_end e) ≡ Ended e ∷ []
last_actions ends.End = refl
last_actions ends.Closed = refl
last_actions (ends.Trapped t) = refl

last_events : (i : ℕ) (e : ColumnEnd) → stage_end_events i (last_end e) ≡ Finish i e ∷ []
last_events i ends.End = refl
last_events i ends.Closed = refl
last_events i (ends.Trapped t) = refl

pub ends_iteration : (e : ColumnEnd) → EndsIteration (last_end e)
ends_iteration ends.End = tt
ends_iteration ends.Closed = tt
ends_iteration (ends.Trapped t) = tt

must_not_read : (i : ℕ) (folded : Option Counter) (e : ColumnEnd) → must_read_left i folded (last_end e) ≡ false
must_not_read zero folded e = refl
must_not_read (suc i) folded ends.End = refl
must_not_read (suc i) folded ends.Closed = refl
must_not_read (suc i) folded (ends.Trapped t) = refl

-- ---- the book

module _ (v : BookState) (t : TokenFields) (trace : List Entry) where
  reads_none : (e : ColumnEnd) → (state_of v).stopped ≡ false → v.reads ≡ v.reads + cond (reads_left v t (last_end e)) 1 0
  reads_none e going =
      let z = ap {B = ℕ} (λ b. cond b 1 0) (reads_is v t (last_end e) going ∙ must_not_read t.iteration t.folded e) in
      omega (arith, z)

  pub advanced_over : (M : Type 0) (e : ColumnEnd) → (state_of v).stopped ≡ false
      → with_finished v t (Finish t.iteration e) trace ≡ after_advance {M = M} v t (last_end e) trace next.Ended
  advanced_over M e going = ap₂ (λ es n. record v {
    log = with_events v.log t.now es;
    traces = set v.traces t.iteration (item_or [] v.traces t.iteration ++ trace ∷ []);
    tokens = set v.tokens t.iteration Spent;
    reads = n;
  }) (sym (last_events t.iteration e)) (reads_none e going)

  pub advanced_held : (M : Type 0) (end : StageEnd) → (state_of v).stopped ≡ true
      → with_held v t trace ≡ after_advance {M = M} v t end trace next.Stopped
  advanced_held M end stopped =
      let z = ap {B = ℕ} (λ s. cond (not s && must_read_left t.iteration t.folded end) 1 0) stopped in
      let n : v.reads ≡ v.reads + cond (reads_left v t end) 1 0 = omega (arith, z) in
      ap₂ (λ l n. record v {
        log = l;
        traces = set v.traces t.iteration (item_or [] v.traces t.iteration ++ trace ∷ []);
        tokens = set v.tokens t.iteration (Kept t);
        reads = n;
      }) (sym (append-nil v.log)) n

  pub named_over : (e : ColumnEnd) → with_finished v t (Finish t.iteration e) trace ≡ after_name_next v t (last_end e) trace named.Ended
  named_over e = ap (λ es. record v {
    log = with_events v.log t.now es;
    traces = set v.traces t.iteration (item_or [] v.traces t.iteration ++ trace ∷ []);
    tokens = set v.tokens t.iteration Spent;
  }) (sym (last_events t.iteration e))

  pub named_stage : (k : Kind) (n : ℤ) → k ≢ Zero
      → with_named v t (Advance t.iteration k n) trace ≡ after_name_next v t (stage_end k n) trace named.Waits
  named_stage k n h = ap (λ es. record v {
    log = with_events v.log t.now es;
    traces = set v.traces t.iteration (item_or [] v.traces t.iteration ++ trace ∷ []);
    tokens = set v.tokens t.iteration (Kept (record t { now = 1 + max (last_ticket v.log) t.now }));
  }) (sym (end_is t.iteration k n h))
