-- One more event, and no event where no entry is left.
use Rattle.std.proofs.Common.{◌≡◌, ◌∙◌, [], ◌∷◌, refl, sym, subst, append-nil, Option, Some, None, MatchOption}
use Rattle.run_record.specs.LogCursors.{IsNext, MergesRest}
use Rattle.run_record.specs.MergedLogs.{AreMerged}
use Rattle.run_record.proofs.NextEntries.{completed_next}
use Rattle.run_record.proofs.SortedEntries.{merges_are_sorted}
use Rattle.run_record.proofs.merge.merged_events.Goals as goal

at_none : {A : Type 0} (o : Option A) (P : Type 0) (Q : A → Type 0) → ((x : A) → o ≡ Some x → ⊥) → MatchOption o P Q → P
at_none None P Q other h = h
at_none (Some x) P Q other h = absurd (other x refl)

pub loop-event-preserved : goal.loop-event-preserved
loop-event-preserved c = record {
  cursors = c.in-Some.ensures.cursors;
  completed = λ entries merges. (
      let next = c.in-Some.ensures.event entries merges in
      completed_next c.args.book.now c.args.shards.now c.loop-event.events.items c.push.new.self.items next.0 c.in-Some.event entries
      next.1 c.in_ok-push.ensures.items (c.loop-event.invariant.completed (next.0 ∷ entries) next.2));
}

pub returns-clause-merged : goal.returns-clause-merged
returns-clause-merged c =
    let book = c.args.book.now in
    let shards = c.args.shards.now in
    let old = c.loop-event.cursors in
    let none = at_none c.next.result (MergesRest book shards old []) (IsNext book shards old c.next.new.self)
    c.in_default.not-Some c.next.ensures.event in
    subst (AreMerged book shards) (append-nil c.loop-event.events.items ∙ sym c.from_vec.ensures)
    (c.loop-event.invariant.completed [] none)

pub returns-clause-sorted : goal.returns-clause-sorted
returns-clause-sorted c =
    merges_are_sorted c.args.book.now c.args.shards.now c.from_vec.result c.requires.book c.requires.shards (returns-clause-merged c)
