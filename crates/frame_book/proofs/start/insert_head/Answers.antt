use Rattle.std.proofs.Common.{◌≡◌, ◌<◌, ◌-◌, ◌∙◌, ℕ, Bool, true, false, arith, length, ap, sym, subst, Some, None}
use Rattle.std.specs.Prelude.{◌==◌}
use Rattle.order_2d.specs.OrderPairs.{AreInserted, marks_after, down_taken, right_taken, with_start}
use Rattle.frame_rows.specs.IterationRows.{head_marks}
use Rattle.frame_rows.specs.RowsOfFrames.{no_marks}
use Rattle.frame_rows.proofs.PlacedRows.{head_has_marks, head_marks_at, placed_marks, placed_within}
use Rattle.frame_rows.proofs.StartRows.{head_marks_none}
use Rattle.frame_book.proofs.start.insert_head.Given.{Over}
use Rattle.frame_book.proofs.start.insert_head.Goals.{After-marks_at}
use Rattle.frame_book.proofs.start.insert_head.Goals as goal

-- what the test says
some_rows : (n : ℕ) (b : Bool) → b ≡ (n == 0) → b ≡ false → 0 < n
some_rows n b e f = grind (arith)

no_rows : (n : ℕ) (b : Bool) → b ≡ (n == 0) → b ≡ true → n ≡ 0
no_rows n b e t = grind (arith)

-- the marks that were read
marks_read : (g : Over) (c : After-marks_at g) → head_marks c.args.rows.now ≡ Some c.marks_at.result
marks_read g c =
    let some = some_rows (length c.args.rows.now) c.is_empty.result c.is_empty.ensures c.if-is_empty.false in
    head_marks_at c.args.rows.now some ∙ ap Some (sym (c.marks_at.ensures no_marks
    ∙ placed_marks c.args.rows.now c.args.places.now (length c.args.rows.now - 1) 0 c.requires.holds
    (head_has_marks c.args.rows.now some c.requires.there)))

pub marks_at-requires : goal.marks_at-requires
marks_at-requires g c =
    let some = some_rows (length c.args.rows.now) c.is_empty.result c.is_empty.ensures c.if-is_empty.false in
    placed_within c.args.rows.now c.args.places.now (length c.args.rows.now - 1) 0 c.requires.holds
    (head_has_marks c.args.rows.now some c.requires.there)

pub returns-then-is_empty-clause-marks : goal.returns-then-is_empty-clause-marks
returns-then-is_empty-clause-marks g c =
    let none = head_marks_none c.args.rows.now
    (no_rows (length c.args.rows.now) c.is_empty.result c.is_empty.ensures c.if-is_empty.true) in
    c.start_first.ensures.marks
    ∙ ap (λ o. marks_after (length c.args.orders.now.down.log) (down_taken None o) (right_taken None o)) (sym none)

pub returns-then-is_empty-clause-lists : goal.returns-then-is_empty-clause-lists
returns-then-is_empty-clause-lists g c =
    let none = head_marks_none c.args.rows.now
    (no_rows (length c.args.rows.now) c.is_empty.result c.is_empty.ensures c.if-is_empty.true) in
    c.start_first.ensures.lists ∙ ap (λ o. with_start c.args.orders.now (down_taken None o) (right_taken None o)) (sym none)

pub start_node-requires-clause-inserted : goal.start_node-requires-clause-inserted
start_node-requires-clause-inserted g c =
    let k = (goal.at.start_node-requires-clause-inserted g c).After-marks_at in
    subst (λ o. AreInserted (length c.args.orders.now.down.log) None o) (marks_read g k) c.requires.inserted

pub returns-clause-marks : goal.returns-clause-marks
returns-clause-marks g c =
    let k = (goal.at.returns-clause-marks g c).After-marks_at in
    subst (λ o. c.start_node.result ≡ marks_after (length c.args.orders.now.down.log) (down_taken None o) (right_taken None o))
    (sym (marks_read g k)) c.start_node.ensures.marks

pub returns-clause-lists : goal.returns-clause-lists
returns-clause-lists g c =
    let k = (goal.at.returns-clause-lists g c).After-marks_at in
    subst (λ o. c.start_node.new.self ≡ with_start c.args.orders.now (down_taken None o) (right_taken None o))
    (sym (marks_read g k)) c.start_node.ensures.lists
