use Rattle.std.proofs.Common.{◌≡◌, ◌∙◌, ◌≤◌, Some, ap, sym, subst}
use Rattle.pipe_model.specs.Pipelines.Behaviour.{Behaviour}
use Rattle.pipe_model.specs.declared.bounds.TheConstants.{MOST_LOCALS}
use Rattle.stage_interp.specs.Executions.{HasExecution, IsSound, run_in, run_of}
use Rattle.stage_interp.specs.MachineState.{MachineState}
use Rattle.stage_interp.specs.RemainingBehaviour.{RanInstance, Represents}
use Rattle.stage_interp.proofs.Running.{ran_stage}
use Rattle.stage_interp.proofs.machine.Machine.run_stage.Goals as goal

pub invariant_of-self : goal.invariant_of-self
invariant_of-self g c =
    let is : c.self.inside.execution ≡ Some c.in-Some.taken = (let a = c.in-Some.is in let b = c.take.ensures.value in cc (a, b)) in
    let was : IsSound c.in-Some.taken = subst HasExecution is c.self.invariant in
    record {
      slots = subst (λ n. MOST_LOCALS ≤ n) (sym c.run_stage-end.ensures.stays.slots) was.slots;
      left = c.run_stage-end.ensures.left;
      budget = c.run_stage-end.ensures.bounded;
    }

pub returns-clause-ran : goal.returns-clause-ran
returns-clause-ran g c =
    let code = c.args.code.now in
    let cells = g.M.Memory.served c.args.memory.now in
    let input = c.args.input.now in
    let run = run_of c.run_stage-end.new.self in
    let is : c.self.inside.execution ≡ Some c.in-Some.taken = (let a = c.in-Some.is in let b = c.take.ensures.value in cc (a, b)) in
    let same : run_of c.in-Some.taken ≡ c.args.self.now.run = sym (ap run_in is) ∙ ap (λ (m : MachineState). m.run) c.self.view_is in
    subst (λ r. (t : Behaviour) → Represents code cells input r t
    → RanInstance code cells input t (g.M.Memory.made c.args.memory.now) (g.M.Memory.made c.run_stage-end.new.memory) run
    c.run_stage-end.result) same
    (ran_stage code cells input _ _ (run_of c.in-Some.taken) run c.run_stage-end.result c.run_stage-end.ensures.ran)
