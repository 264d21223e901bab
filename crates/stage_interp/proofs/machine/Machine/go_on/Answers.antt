use Rattle.std.proofs.Common.{◌≡◌, ◌∙◌, Some, ap, sym, subst}
use Rattle.pipe_model.specs.Pipelines.Behaviour.{Behaviour}
use Rattle.stage_interp.specs.Executions.{run_in, run_of}
use Rattle.stage_interp.specs.MachineState.{MachineState}
use Rattle.stage_interp.specs.RemainingBehaviour.{IsStopped, RanInstance}
use Rattle.stage_interp.proofs.Running.{went_on}
use Rattle.stage_interp.proofs.machine.Machine.go_on.Goals as goal

pub returns-clause-ran : goal.returns-clause-ran
returns-clause-ran g c =
    let code = c.args.code.now in
    let cells = g.M.Memory.served c.args.memory.now in
    let input = c.args.input.now in
    let run = run_of c.go_on-end.new.self in
    let is : c.self.inside.execution ≡ Some c.in-Some.taken = (let a = c.in-Some.is in let b = c.take.ensures.value in cc (a, b)) in
    let same : run_of c.in-Some.taken ≡ c.args.self.now.run = sym (ap run_in is) ∙ ap (λ (m : MachineState). m.run) c.self.view_is in
    subst (λ r. (t : Behaviour) → IsStopped code cells input r t
    → RanInstance code cells input t (g.M.Memory.made c.args.memory.now) (g.M.Memory.made c.go_on-end.new.memory) run c.go_on-end.result)
    same
    (went_on code cells input _ _ (run_of c.in-Some.taken) run c.go_on-end.result c.go_on-end.ensures.ran)
