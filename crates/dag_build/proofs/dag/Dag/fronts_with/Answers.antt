use Rattle.std.proofs.Common.{◌≤◌, arith}
use Rattle.dag_build.proofs.ClearLaws.{clear_with}
use Rattle.dag_build.proofs.dag.Dag.fronts_with.Goals as goal

pub returns : goal.returns
returns c =
    let moved = c.moved-moved.ensures in
    let le : c.front_for.result ≤ c.args.access.now.node.index = omega (arith, c.if-index-front_for.false) in
    λ noted fronts. clear_with _ noted _ _ _ _ _ fronts moved.column moved.writes moved.accesses
    (rw c.front_for.ensures at le) c.requires c.joined.ensures
