use Rattle.std.proofs.lemmas.Bool.{false≢true}
use Rattle.frame_rows.proofs.FrameRows.{row_at_read, free_same, free_past, free_test}
use Rattle.frame_rows.proofs.rows.may_enter.Goals as goal

pub returns-then-iteration-rows : goal.returns-then-iteration-rows
returns-then-iteration-rows g c = λ going fs h. (
  (λ x. absurd (false≢true x)),
  (λ x. absurd (free_past going fs c.args.rows.now c.args.iteration h c.if-iteration-rows.true x)),
)

pub returns : goal.returns
returns g c = λ going fs h.
    let at = row_at_read c.args.rows.now c.args.iteration c.index-rows-iteration.result c.if-iteration-rows.false c.index-rows-iteration.is
    in
    free_test _ _ _ _ _ _ c.is_free.ensures c.status.ensures c.left_counter.ensures
    (free_same going fs c.args.rows.now c.args.iteration c.index-rows-iteration.result h at)
