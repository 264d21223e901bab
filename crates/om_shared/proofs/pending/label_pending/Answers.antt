-- The labels that the pending insertions chose are those of the log.
use Rattle.std.proofs.Common.{ℕ, ◌++◌, ◌∙◌, List, ap, sym, subst, arith}
use Rattle.std.proofs.lemmas.List.{append_cancel_right}
use Rattle.pipe_model.specs.Orders.OrderList.{IsLog}
use Rattle.om_list.specs.KeptLists.{IsKept}
use Rattle.om_shared.specs.SharedLists.{HasChosenLabels}
use Rattle.om_shared.proofs.pending.label_pending.Goals as goal

pub returns-clause-chosen : goal.returns-clause-chosen
returns-clause-chosen c = λ done log.
    let b = c.requires.moving in
    let pending : List ℕ = c.args.pending.now.items in
    let same = append_cancel_right b.done done pending (sym b.log ∙ log) in
    let slice = c.as_slice.ensures.value in
    subst (λ (xs : List ℕ). HasChosenLabels done c.args.links.now.label.items xs c.insert_pending.new.links.label.items) slice
    (c.insert_pending.ensures.chosen done (subst (IsKept c.args.links.now) same b.kept)
    (subst (IsLog 1) (log ∙ ap (λ (xs : List ℕ). done ++ xs) (sym slice)) b.valid))

pub returns-clause-own : goal.returns-clause-own
returns-clause-own c = c.store_labels.ensures.own

pub returns-clause-log : goal.returns-clause-log
returns-clause-log c = c.store_labels.ensures.log

pub returns-clause-resting : goal.returns-clause-resting
returns-clause-resting c = c.store_labels.ensures.resting

pub returns-clause-pending : goal.returns-clause-pending
returns-clause-pending c = c.clear.ensures.items

pub returns-clause-room : goal.returns-clause-room
returns-clause-room c =
    let room = c.requires.room in
    let next = room.next_room in
    let prev = room.prev_room in
    let label = room.label_room in
    let pending = room.pending_room in
    let linked = c.insert_pending.ensures in
    let same_next = linked.next_room in
    let same_prev = linked.prev_room in
    let same_label = linked.label_room in
    let same_pending = c.clear.ensures.capacity in
    record {
      most = room.most;
      next_room = omega (arith, next, same_next);
      prev_room = omega (arith, prev, same_prev);
      label_room = omega (arith, label, same_label);
      pending_room = omega (arith, pending, same_pending);
    }
