use Rattle.std.proofs.Common.{◌≤◌, length, rules}
use Rattle.pipe_model.specs.Races.Columns.{nodes_at}
use Rattle.dag_build.proofs.Moves.{moves_past, table_at}
use Rattle.dag_build.proofs.jumps.jump.Goals as goal

pub returns-in-None : goal.returns-in-None
returns-in-None c =
    let table = table_at _ _ _ _ _ c.requires.jumps c.as_slice.ensures c.requires.within c.index-as_slice-i.is in
    let past : length (nodes_at c.args.columns.now c.args.i) ≤ c.args.place =
    rw (← table.whole, ← c.as_slice-2.ensures) (search rules) in
    rw c.nodes_of.ensures (moves_past _ _ _ _ c.requires.jumps.positive past)
