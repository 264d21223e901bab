-- Each list gets two elements, after ones that were there.
use Rattle.std.proofs.Common.{◌≡◌, ◌∙◌, ℕ, ◌+◌, ◌≤◌, ap, ap₂, arith, length, refl, sym}
use Rattle.pipe_model.specs.declared.marks.Marks.{Marks}
use Rattle.order_2d.specs.OrderPairs.{OrderPair, OrderedList, marks_after, with_start}
use Rattle.order_2d.proofs.GrownLogs.{length_of_pair, pair_is_log}
use Rattle.order_2d.proofs.two_orders.TwoOrders.start.Goals as goal

-- the marks of a start, by the elements of its two pairs
marks_of_pairs : (n x y : ℕ) (down right : ℕ × ℕ) → down ≡ (1 + n, 2 + n) → right ≡ (1 + n, 2 + n) → (let m : Marks = record {
  down_first = x;
  right_first = y;
  down = record { down_first = down.0; right_first = right.1 };
  right = record { down_first = down.1; right_first = right.0 };
} in m) ≡ marks_after n x y
marks_of_pairs n x y down right a b = rw (a, b) refl

pub invariant_of-self : goal.invariant_of-self
invariant_of-self g c =
    let down : OrderedList = g.L.ListWriter.list c.self.inside.down in
    let right : OrderedList = g.L.ListWriter.list c.self.inside.right in
    let same : length down.log ≡ length right.log = c.self.invariant.0 in
    let entries = ap (λ (o : OrderPair). length o.down.log) c.self.view_is in
    let there : c.args.down_first ≤ length down.log = omega (arith, c.requires.down, entries) in
    let right_there : c.args.right_first ≤ length right.log = omega (arith, c.requires.right, entries, same) in
    let long = length_of_pair down.log c.args.down_first (1 + length down.log) in
    let right_long = length_of_pair right.log c.args.right_first (1 + length right.log) in
    rw (c.insert_pair_after-down_child.ensures.list, c.insert_pair_after-right_child.ensures.list) (
      omega (arith, long, right_long, same),
      pair_is_log down.log c.args.down_first c.self.invariant.1 there,
      pair_is_log right.log c.args.right_first c.self.invariant.2 right_there,
    )

pub returns-clause-marks : goal.returns-clause-marks
returns-clause-marks g c =
    let entries = ap (λ (o : OrderPair). length o.down.log) c.self.view_is in
    let right_entries : length (g.L.ListWriter.list c.self.inside.right).log ≡ length c.args.self.now.down.log =
    sym c.self.invariant.0 ∙ entries in
    marks_of_pairs (length c.args.self.now.down.log) c.args.down_first c.args.right_first c.insert_pair_after-down_child.result
    c.insert_pair_after-right_child.result
    (c.insert_pair_after-down_child.ensures.elements ∙ ap (λ (n : ℕ). (1 + n, 2 + n)) entries)
    (c.insert_pair_after-right_child.ensures.elements ∙ ap (λ (n : ℕ). (1 + n, 2 + n)) right_entries)

pub returns-clause-lists : goal.returns-clause-lists
returns-clause-lists g c =
    ap₂ (λ a b. let o : OrderPair = record { down = a; right = b } in o) c.insert_pair_after-down_child.ensures.list
    c.insert_pair_after-right_child.ensures.list
    ∙ ap (λ (o : OrderPair). with_start o c.args.down_first c.args.right_first) c.self.view_is
