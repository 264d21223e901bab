use Rattle.std.proofs.Common.{◌≡◌, ◌-◌, ◌∙◌, length, ap, ap₂, sym, subst, Some}
use Rattle.order_2d.specs.OrderPairs.{AreInserted, marks_after, down_taken, right_taken, with_start}
use Rattle.frame_rows.specs.IterationRows.{marks_at, left_marks}
use Rattle.frame_rows.specs.RowsOfFrames.{no_marks}
use Rattle.frame_rows.proofs.PlacedRows.{left_marks_at, placed_marks, placed_within}
use Rattle.frame_book.proofs.start.insert_below.Given.{Over}
use Rattle.frame_book.proofs.start.insert_below.Goals.{Joined-left, in-Some, in-None}
use Rattle.frame_book.proofs.start.insert_below.Goals as goal

pub marks_at-up-requires : goal.marks_at-up-requires
marks_at-up-requires g c =
    placed_within c.args.rows.now c.args.places.now c.args.iteration c.args.index c.requires.holds c.requires.up

pub marks_at-requires : goal.marks_at-requires
marks_at-requires g c =
    placed_within c.args.rows.now c.args.places.now (c.args.iteration - 1) c.in-Some.parent c.requires.holds
    (c.requires.left c.in-Some.parent c.in-Some.is).1

-- the marks that were read
module _ (g : Over) (c : Joined-left g) where
  up_read : marks_at c.args.rows.now c.args.iteration c.args.index ≡ c.marks_at-up.result
  up_read = sym (c.marks_at-up.ensures no_marks
      ∙ placed_marks c.args.rows.now c.args.places.now c.args.iteration c.args.index c.requires.holds c.requires.up)

  left_read : left_marks c.args.rows.now c.args.iteration c.args.left ≡ c.match-left.left
  left_read = elim c.match-left.branch [
    | in-Some w ↦ (
        let q = c.requires.left w.in-Some.parent w.in-Some.is in
        ap (left_marks c.args.rows.now c.args.iteration) w.in-Some.is
        ∙ (left_marks_at c.args.rows.now c.args.iteration w.in-Some.parent q.0
        ∙ (ap Some (sym (w.marks_at.ensures no_marks
        ∙ placed_marks c.args.rows.now c.args.places.now (c.args.iteration - 1) w.in-Some.parent c.requires.holds q.1)) ∙ sym w.left-is)))
    | in-None w ↦ ap (left_marks c.args.rows.now c.args.iteration) w.in-None.is ∙ sym w.left-is
  ]

pub start_node-requires-clause-inserted : goal.start_node-requires-clause-inserted
start_node-requires-clause-inserted g c =
    let k = (goal.at.start_node-requires-clause-inserted g c).Joined-left in
    subst (λ o. AreInserted (length c.args.orders.now.down.log) (Some c.marks_at-up.result) o) (left_read g k)
    (subst (λ m. AreInserted (length c.args.orders.now.down.log) (Some m) (left_marks c.args.rows.now c.args.iteration c.args.left))
    (up_read g k) c.requires.inserted)

pub returns-clause-marks : goal.returns-clause-marks
returns-clause-marks g c =
    let k = (goal.at.returns-clause-marks g c).Joined-left in
    let n = length c.args.orders.now.down.log in
    c.start_node.ensures.marks ∙ ap₂ (λ a b. marks_after n (down_taken (Some a) b) (right_taken (Some a) b)) (sym (up_read g k))
    (sym (left_read g k))

pub returns-clause-lists : goal.returns-clause-lists
returns-clause-lists g c =
    let k = (goal.at.returns-clause-lists g c).Joined-left in
    c.start_node.ensures.lists ∙ ap₂ (λ a b. with_start c.args.orders.now (down_taken (Some a) b) (right_taken (Some a) b))
    (sym (up_read g k)) (sym (left_read g k))

pub overflow_sub-iteration : goal.overflow_sub-iteration
overflow_sub-iteration g c = (c.requires.left c.in-Some.parent c.in-Some.is).0
