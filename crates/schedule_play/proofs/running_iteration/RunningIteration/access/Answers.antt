use Rattle.std.proofs.Common.{ℕ, subst, sym}
use Rattle.pipe_frame.specs.Replies.{after_instances}
use Rattle.pipe_model.specs.Language.Programs.{pipeline_of}
use Rattle.stage_code.specs.FlatCode.{FlatCode}
use Rattle.stage_interp.specs.MachineState.{IsMadeFor, MachineState}
use Rattle.schedule_play.specs.RunningIterations.{IsRunningIteration}
use Rattle.schedule_play.specs.RunningInstances.{IsUnderWay}
use Rattle.schedule_play.proofs.running_iteration.RunningIteration.access.Goals as goal

pub returns-clause-instance : goal.returns-clause-instance
returns-clause-instance g c = λ tree replies instance.
    let code = g.B.PlayedCode.code in
    let cells = g.B.PlayedCode.cells in
    let served = c.args.cells.now.shard.cells in
    let input = c.args.input.now in
    let old = c.self.inside in
    let new = c.access-access.new.self in
    let run = c.access-access.new.machine.run in
    let t = after_instances ((pipeline_of tree input).behaviour old.token.iteration) replies in
    let here = subst (IsRunningIteration code cells tree input replies) (sym c.self.view_is) instance in
    let lent = sym c.get_mut-machine.ensures.value in
    let under_way = subst (λ (m : MachineState). IsUnderWay code cells input t m.run old.running.trace old.running.next) lent
    here.under_way in
    let machine = c.get_mut-machine.result.now in
    let before = subst (λ (x : FlatCode). IsUnderWay x served input t machine.run old.running.trace old.running.next)
    (sym c.requires.code)
    (subst (λ (n : ℕ). IsUnderWay code n input t machine.run old.running.trace old.running.next) (sym c.requires.cells) under_way) in
    let made = subst (IsMadeFor code) lent here.whole.made in
    let after = c.access-access.ensures.goes_on t before in
    record {
      whole = record { code_of = here.whole.code_of; made = c.access-access.ensures.made code made; served = here.whole.served };
      under_way = subst (λ (n : ℕ). IsUnderWay code n input t run new.trace new.next) c.requires.cells
          (subst (λ (x : FlatCode). IsUnderWay x served input t run new.trace new.next) c.requires.code after);
    }
