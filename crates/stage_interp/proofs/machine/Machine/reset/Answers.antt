use Rattle.std.proofs.Common.{◌≡◌, ◌∙◌, Some, ap, sym, subst}
use Rattle.stage_interp.specs.Executions.{run_in, run_of}
use Rattle.stage_interp.specs.MachineState.{IsAtStart, MachineState, iteration_in}
use Rattle.stage_interp.proofs.Starts.{represents_in, represents_tree_in}
use Rattle.stage_interp.proofs.machine.Machine.reset.Goals as goal

pub returns-clause-represents : goal.returns-clause-represents
returns-clause-represents c = λ tree code cells input of made served.
    let machine = c.args.self.now in
    let run = run_of c.reset.new.self in
    let is : c.self.inside.execution ≡ Some c.in-Some.taken = (let a = c.in-Some.is in let b = c.take.ensures.value in cc (a, b)) in
    let depth : run.depth ≡ machine.run.depth = c.reset.ensures.depth ∙ sym (ap (λ o. (run_in o).depth) is)
    ∙ ap (λ (m : MachineState). m.run.depth) c.self.view_is in
    represents_in tree code cells input machine run c.args.part c.args.iteration of made depth served
    (subst (λ k. IsAtStart run k (iteration_in c.args.part c.args.iteration)) c.start-start.ensures
    (subst (λ i. IsAtStart run c.start-start.result i) c.iteration_in.ensures c.reset.ensures.start))

pub returns-clause-tree : goal.returns-clause-tree
returns-clause-tree c = λ tree code cells input of made served.
    let machine = c.args.self.now in
    let run = run_of c.reset.new.self in
    let is : c.self.inside.execution ≡ Some c.in-Some.taken = (let a = c.in-Some.is in let b = c.take.ensures.value in cc (a, b)) in
    let depth : run.depth ≡ machine.run.depth = c.reset.ensures.depth ∙ sym (ap (λ o. (run_in o).depth) is)
    ∙ ap (λ (m : MachineState). m.run.depth) c.self.view_is in
    represents_tree_in tree code cells input machine run c.args.part c.args.iteration of made depth served
    (subst (λ k. IsAtStart run k (iteration_in c.args.part c.args.iteration)) c.start-start.ensures
    (subst (λ i. IsAtStart run c.start-start.result i) c.iteration_in.ensures c.reset.ensures.start))
