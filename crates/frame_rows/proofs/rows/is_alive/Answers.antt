use Rattle.std.proofs.Common.{◌∙◌, ap, sym, not}
use Rattle.frame_rows.specs.AliveLists.{is_alive_row}
use Rattle.frame_rows.proofs.FrameRows.{row_at_read}
use Rattle.frame_rows.proofs.AliveRows.{row_past}
use Rattle.frame_rows.proofs.rows.is_alive.Goals as goal

pub returns-then-iteration-rows : goal.returns-then-iteration-rows
returns-then-iteration-rows g c = sym (row_past c.args.rows.now c.args.iteration c.if-iteration-rows.true)

pub returns : goal.returns
returns g c =
    let at = row_at_read c.args.rows.now c.args.iteration c.index-rows-iteration.result c.if-iteration-rows.false c.index-rows-iteration.is
    in
    ap not c.has_ended.ensures ∙ sym (ap is_alive_row at)
