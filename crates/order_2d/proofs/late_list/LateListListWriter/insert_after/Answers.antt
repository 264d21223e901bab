-- The insertion is an entry of the log.
use Rattle.std.proofs.Common.{◌≡◌, ◌+◌, ◌≤◌, ◌<◌, ◌++◌, ◌∷◌, [], sym, subst, arith, length, append_assoc}
use Rattle.std.proofs.lemmas.List.{length_push}
use Rattle.run_laws.proofs.ListOrders.InsertionLists.{entries_insert_elements}
use Rattle.order_2d.specs.OrderPairs.{OrderedList}
use Rattle.order_2d.proofs.late_list.LateListListWriter.insert_after.Goals as goal

pub invariant_of-self : goal.invariant_of-self
invariant_of-self c =
    let log = c.self.inside.list.log ++ c.self.inside.pending.items in
    let there : c.args.x ≤ length log = subst (λ (l : OrderedList). c.args.x ≤ length l.log) (sym c.self.view_is) c.requires.there in
    let room : length log + 1 < c.self.inside.list.capacity =
    subst (λ (l : OrderedList). length l.log + 1 < l.capacity) (sym c.self.view_is) c.requires.room in
    let long = length_push log c.args.x in
    let pushed : c.self.inside.list.log ++ (c.self.inside.pending.items ++ c.args.x ∷ []) ≡ log ++ c.args.x ∷ [] =
    sym (append_assoc c.self.inside.list.log c.self.inside.pending.items (c.args.x ∷ [])) in
    rw (c.push_reserved.ensures.items, c.push_reserved.ensures.capacity, pushed) (
      (entries_insert_elements log c.args.x).names c.self.invariant.0 (omega (arith, there)),
      omega (arith, long, room),
      c.self.invariant.2,
      c.self.invariant.3,
    )
