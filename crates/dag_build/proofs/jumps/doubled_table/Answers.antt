use Rattle.std.proofs.Common.{◌<◌, arith, length}
use Rattle.dag_build.proofs.Moves.{one_more_move, table_at, twice_moved}
use Rattle.dag_build.proofs.jumps.doubled_table.Goals as goal

pub loop-place-preserved : goal.loop-place-preserved
loop-place-preserved c =
    let table = table_at _ _ _ _ _ c.requires.jumps c.as_slice.ensures (omega arith) c.index-as_slice-i.is in
    let within : c.loop-place.place-index < length c.as_slice-once.result.now = omega arith in
    one_more_move _ _ _ _ _ _ _ c.loop-place.invariant
    (twice_moved _ _ _ _ _ _ _ table c.as_slice-once.ensures within c.jump.ensures) c.in_ok-push.ensures.ok
