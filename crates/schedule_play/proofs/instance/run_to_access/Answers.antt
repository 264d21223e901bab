use Rattle.std.proofs.Common.{[], subst, sym}
use Rattle.cell_store.specs.ShardState.{ShardState}
use Rattle.stage_interp.specs.RemainingBehaviour.{RanInstance, Represents}
use Rattle.schedule_play.proofs.instance.run_to_access.Goals as goal

pub returns-clause-ran : goal.returns-clause-ran
returns-clause-ran c = λ t represents.
    let code = c.args.code.now in
    let input = c.args.input.now in
    let begun = c.new-memory.ensures in
    let ran = c.run_stage.ensures.ran t (subst (λ (cells : ShardState). Represents code cells.shard.cells input c.args.machine.now.run t)
    (sym begun) represents) in
    subst (λ (cells : ShardState). RanInstance code cells.shard.cells input t [] [] c.run_stage.new.self.run c.run_stage.result) begun ran
