use Rattle.std.proofs.Common.{◌-◌, arith, Some, ap, ◌∙◌}
use Rattle.frame_rows.proofs.FrameRows.{row_at_read, left_counter_is}
use Rattle.frame_rows.proofs.rows.left_counter.Goals as goal

pub returns : goal.returns
returns g c = ap Some c.counter.ensures ∙ left_counter_is c.args.rows.now c.args.iteration c.index-rows-iteration.result
    c.if-iteration-eq0.false (row_at_read c.args.rows.now (c.args.iteration - 1) c.index-rows-iteration.result
    (let n = c.if-iteration-eq0.false in omega (arith, n)) c.index-rows-iteration.is)
