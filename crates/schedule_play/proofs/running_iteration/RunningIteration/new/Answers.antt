use Rattle.std.proofs.Common.{ℕ, [], subst, sym}
use Rattle.pipe_frame.specs.Replies.{after_instances}
use Rattle.pipe_model.specs.Language.Programs.{pipeline_of}
use Rattle.stage_code.specs.FlatCode.{FlatCode}
use Rattle.stage_interp.specs.MachineState.{IsMadeFor, MachineState}
use Rattle.stage_interp.specs.RemainingBehaviour.{Represents}
use Rattle.schedule_play.specs.RunningInstances.{IsUnderWay}
use Rattle.schedule_play.proofs.running_iteration.RunningIteration.new.Goals as goal

pub returns-clause-instance : goal.returns-clause-instance
returns-clause-instance g c = λ tree replies at.
    let code = g.B.PlayedCode.code in
    let cells = g.B.PlayedCode.cells in
    let input = c.args.input.now in
    let t = after_instances ((pipeline_of tree input).behaviour c.args.token.iteration) replies in
    let running = c.new-running.result in
    let run = c.new-running.new.machine.run in
    let lent = sym c.get_mut-machine.ensures.value in
    let machine = c.get_mut-machine.result.now in
    let there = subst (λ (m : MachineState). Represents code cells input m.run t) lent at.represents in
    let represents = subst (λ (x : FlatCode). Represents x c.args.cells.now.shard.cells input machine.run t) (sym c.requires.code)
    (subst (λ (n : ℕ). Represents code n input machine.run t) (sym c.requires.cells) there) in
    let made = subst (IsMadeFor code) lent at.whole.made in
    let begun = c.new-running.ensures.begun t represents in
    let first = subst (λ (x : FlatCode). IsUnderWay x c.args.cells.now.shard.cells input t run [] running.next) c.requires.code begun in
    let here = subst (λ (n : ℕ). IsUnderWay code n input t run [] running.next) c.requires.cells first in
    record {
      whole = record { code_of = at.whole.code_of; made = c.new-running.ensures.made code made; served = at.whole.served };
      under_way = subst (λ l. IsUnderWay code cells input t run l running.next) (sym c.new-running.ensures.empty) here;
    }
