-- Links, labels and log with the new element.
use Rattle.std.proofs.Common.{sym, ap, arith, length, subst}
use Rattle.std.proofs.lemmas.List.{length_push}
use Rattle.om_list.specs.KeptLists.{IsKept}
use Rattle.om_list.specs.LabelledList.{LabelledList}
use Rattle.om_list.proofs.Insertions.{kept_inserted, kept_rises}
use Rattle.om_list.proofs.om_list.OmList.insert_after.Goals as goal
use Rattle.om_list.proofs.om_list.OmList.insert_after.Goals.{After-push_reserved}

kept : (c : After-push_reserved) → IsKept c.insert_element.new.links c.push_reserved.new.self.items
kept c =
    let i = c.self.inside in
    let entries = ap (λ (l : LabelledList). length l.log) c.self.view_is in
    let e = c.insert_element.ensures in
    subst (IsKept c.insert_element.new.links) (sym c.push_reserved.ensures.items)
    (kept_inserted i.links c.insert_element.new.links i.log.items c.self.invariant.0 c.args.x (omega (arith, c.requires.there, entries))
    e.labelled e.list e.long)

pub invariant_of-self : goal.invariant_of-self
invariant_of-self c =
    let room = c.self.invariant.1 in
    let most = room.most in
    let next_room = room.next_room in
    let prev_room = room.prev_room in
    let label_room = room.label_room in
    let log_room = room.log_room in
    let e = c.insert_element.ensures in
    let next_same = e.next_room in
    let prev_same = e.prev_room in
    let label_same = e.label_room in
    let entries = ap (λ (l : LabelledList). length l.log) c.self.view_is in
    let capacity = ap (λ (l : LabelledList). l.capacity) c.self.view_is in
    let pushed = ap length c.push_reserved.ensures.items in
    let long = length_push c.self.inside.log.items c.args.x in (
      kept c,
      record {
        below = omega (arith, c.requires.room, entries, capacity, pushed, long);
        most = most;
        next_room = omega (arith, next_room, next_same);
        prev_room = omega (arith, prev_room, prev_same);
        label_room = omega (arith, label_room, label_same);
        log_room = omega (arith, log_room, c.push_reserved.ensures.capacity);
      },
    )

pub returns-clause-labels : goal.returns-clause-labels
returns-clause-labels c = kept_rises _ _ (kept c)
