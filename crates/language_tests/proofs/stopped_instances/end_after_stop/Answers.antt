use Rattle.std.proofs.Common.{map, subst, sym}
use Rattle.pipe_model.specs.Pipelines.Behaviour.{Accessed, behaviour_after_all}
use Rattle.stage_interp.specs.RemainingBehaviour.{IsStopped}
use Rattle.language_tests.proofs.stopped_instances.end_after_stop.Goals as goal

pub go_on-requires-clause-before : goal.go_on-requires-clause-before
go_on-requires-clause-before c =
    let before = c.requires.before in
    let ran = c.run_stage-end.ensures.ran before.0 before.1 in
    let left = behaviour_after_all before.0 (map Accessed ran.accesses) in (
      left,
      subst (λ cells. IsStopped c.args.code.now cells c.args.input.now c.run_stage-end.new.self.run left)
          (sym c.run_stage-end.ensures.serves)
          (rw c.in-Stopped.is at ran.ends_as),
    )
