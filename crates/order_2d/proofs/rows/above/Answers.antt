-- The instance above is in the row of the column.
use Rattle.std.proofs.Common.{◌∙◌, ◌-◌, ◌<◌, ap, arith, length, []}
use Rattle.std.proofs.lemmas.List.{get_or_default}
use Rattle.order_2d.specs.StartedNodes.{row_at}
use Rattle.order_2d.proofs.RowsSoFar.{read_row}
use Rattle.order_2d.proofs.rows.above.Goals as goal

pub bounds-row-x : goal.bounds-row-x
bounds-row-x c =
    let row = c.as_slice-row.ensures ∙ (c.index-rows-x.is ∙ get_or_default c.args.rows.now c.args.x.iteration c.index-rows-x.result []
    c.requires.begun) in
    let long = ap length row in
    let there : c.args.x.index - 1 < length (row_at c.args.rows.now c.args.x.iteration) =
    c.requires.started (c.args.x.index - 1) (omega (arith, c.if-x-eq0.false)) in
    omega (arith, there, long)

pub returns-clause-some : goal.returns-clause-some
returns-clause-some c = λ k e. read_row c.args.rows.now c.args.x.iteration (c.args.x.index - 1) k c.as_slice-row.result.now _
    (c.as_slice-row.ensures ∙ (c.index-rows-x.is ∙ get_or_default c.args.rows.now c.args.x.iteration c.index-rows-x.result []
    c.requires.begun))
    (omega (arith, e)) (c.requires.started k e)
