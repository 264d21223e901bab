-- Each pending element goes into the links as it goes into the log.
use Rattle.std.proofs.Common.{ℕ, ◌++◌, ◌∙◌, List, refl, subst, arith}
use Rattle.std.proofs.lemmas.List.{take_all}
use Rattle.om_list.specs.KeptLists.{IsKept}
use Rattle.om_shared.specs.SharedLists.{HasChosenLabels}
use Rattle.om_shared.proofs.PendingEntries.{one_more_linked, pending_entry}
use Rattle.om_shared.proofs.pending.insert_pending.Goals as goal

pub insert_element-requires-clause-there : goal.insert_element-requires-clause-there
insert_element-requires-clause-there c =
    let kept = c.requires.kept in
    let count = kept.1.count in
    let long = c.loop-k.invariant.long in
    let below = pending_entry kept.0 c.args.pending.now c.loop-k.k kept.2 (omega (arith, c.loop-k-test.true)) in
    omega (arith, count, long, below)

pub loop-k-preserved : goal.loop-k-preserved
loop-k-preserved c =
    let i = c.loop-k.invariant in
    let e = c.insert_element.ensures in
    let long = i.long in
    let one = e.long in
    record {
      linked = λ done kept log.
          let before = i.linked done kept log in
          one_more_linked c.loop-k.links c.insert_element.new.links done c.args.pending.now c.args.links.now.label.items c.loop-k.k _
          log (omega (arith, c.loop-k-test.true)) refl e.labelled e.list e.long e.label before.0 before.1;
      long = omega (arith, long, one);
      next_room = e.next_room ∙ i.next_room;
      prev_room = e.prev_room ∙ i.prev_room;
      label_room = e.label_room ∙ i.label_room;
    }

pub returns-clause-kept : goal.returns-clause-kept
returns-clause-kept c = λ done kept log.
    let all = take_all c.loop-k.k c.args.pending.now (omega (arith, c.loop-k-test.false)) in
    subst (λ (xs : List ℕ). IsKept c.loop-k.links (done ++ xs)) all (c.loop-k.invariant.linked done kept log).0

pub returns-clause-chosen : goal.returns-clause-chosen
returns-clause-chosen c = λ done kept log.
    let all = take_all c.loop-k.k c.args.pending.now (omega (arith, c.loop-k-test.false)) in
    subst (λ (xs : List ℕ). HasChosenLabels done c.args.links.now.label.items xs c.loop-k.links.label.items) all
    (c.loop-k.invariant.linked done kept log).1
