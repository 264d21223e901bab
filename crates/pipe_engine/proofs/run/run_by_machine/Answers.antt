use Rattle.std.proofs.Common.{◌≡◌, ◌∙◌, [], ap, sym}
use Rattle.std.specs.Prelude.{is_some}
use Rattle.pipe_model.specs.Language.ProgramsOfTrees.{whole_of}
use Rattle.pipe_model.specs.Language.SyntaxTree.{tree_of}
use Rattle.pipe_model.specs.Pipelines.WholePrograms.{init_trap}
use Rattle.pipe_engine.proofs.run.run_by_machine.Goals as goal

pub run_of_init-requires-clause-trap : goal.run_of_init-requires-clause-trap
run_of_init-requires-clause-trap g c = c.in_ok-init.ensures.trap [] c.in_ok-cells.ensures.state

pub returns-then-is_some : goal.returns-then-is_some
returns-then-is_some g c = c.run_of_init.ensures c.args.limits.throttle

pub run_of_loop-requires-clause-no_trap : goal.run_of_loop-requires-clause-no_trap
run_of_loop-requires-clause-no_trap g c =
    let w = whole_of (tree_of c.args.prepared.now.checked.now) c.args.prepared.now.input.now in
    let trap : c.in_ok-init.init.trap ≡ init_trap w = c.in_ok-init.ensures.trap [] c.in_ok-cells.ensures.state in
    ap is_some (sym trap) ∙ sym c.is_some.ensures ∙ c.if-is_some.false

pub run_loop-requires-clause-no_trap : goal.run_loop-requires-clause-no_trap
run_loop-requires-clause-no_trap g c κs within =
    let w = whole_of (tree_of c.args.prepared.now.checked.now) c.args.prepared.now.input.now in
    let trap : c.in_ok-init.init.trap ≡ init_trap w = c.in_ok-init.ensures.trap [] c.in_ok-cells.ensures.state in
    ap is_some (sym trap) ∙ sym c.is_some.ensures ∙ c.if-is_some.false

pub run_of_init-requires-clause-state : goal.run_of_init-requires-clause-state
run_of_init-requires-clause-state g c = c.in_ok-init.ensures.state [] c.in_ok-cells.ensures.state

pub run_of_init-requires-clause-serves : goal.run_of_init-requires-clause-serves
run_of_init-requires-clause-serves g c = c.in_ok-init.ensures.serves

pub run_loop-requires-clause-before : goal.run_loop-requires-clause-before
run_loop-requires-clause-before g c κs within = c.in_ok-init.ensures.accesses [] c.in_ok-cells.ensures.state

pub run_loop-requires-clause-state : goal.run_loop-requires-clause-state
run_loop-requires-clause-state g c κs within = c.in_ok-init.ensures.state [] c.in_ok-cells.ensures.state

pub run_loop-requires-clause-serves : goal.run_loop-requires-clause-serves
run_loop-requires-clause-serves g c κs within = c.in_ok-init.ensures.serves

pub run_of_loop-requires-clause-made : goal.run_of_loop-requires-clause-made
run_of_loop-requires-clause-made g c = c.in_ok-init.ensures.made

pub run_of_loop-requires-clause-end : goal.run_of_loop-requires-clause-end
run_of_loop-requires-clause-end g c = c.in_ok-end.ensures
