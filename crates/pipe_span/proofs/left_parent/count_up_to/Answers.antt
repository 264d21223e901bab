use Rattle.std.proofs.Common.{arith, ◌<ℤ◌}
use Rattle.std.proofs.lemmas.Int.{ints}
use Rattle.pipe_model.specs.Races.Columns.{node_at}
use Rattle.pipe_span.proofs.LeftParents.{counted}
use Rattle.pipe_span.proofs.left_parent.count_up_to.Goals as goal

pub returns-else-left-count : goal.returns-else-left-count
returns-else-left-count c =
    let above : (node_at c.args.right.now c.args.k).number <ℤ (node_at c.args.left.now c.loop-count.count).number =
    grind (arith, ints, c.if-left-count.false) in
    counted _ _ _ c.requires.rising c.loop-count-test.true c.loop-count.invariant.1 above
