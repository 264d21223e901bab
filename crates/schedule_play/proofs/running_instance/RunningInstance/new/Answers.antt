use Rattle.std.proofs.Common.{[], subst, sym}
use Rattle.schedule_play.specs.RunningInstances.{IsUnderWay}
use Rattle.schedule_play.proofs.UnderWay.{begins}
use Rattle.schedule_play.proofs.running_instance.RunningInstance.new.Goals as goal

pub returns-clause-begun : goal.returns-clause-begun
returns-clause-begun c = λ t represents.
    let code = c.args.code.now in
    let cells = c.args.cells.now.shard.cells in
    let input = c.args.input.now in
    let run = c.run_to_access.new.machine.run in
    subst (IsUnderWay code cells input t run []) (sym c.action_at.ensures)
    (begins code cells input t run c.run_to_access.result (c.run_to_access.ensures.ran t represents))
