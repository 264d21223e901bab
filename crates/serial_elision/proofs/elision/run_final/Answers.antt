use Rattle.std.proofs.Common.{◌≡◌, ◌∙◌, ◌++◌, sym, true, false}
use Rattle.std.specs.Prelude.{is_some}
use Rattle.pipe_model.specs.Language.ProgramsOfTrees.{whole_of}
use Rattle.pipe_model.specs.Language.SyntaxTree.{tree_of}
use Rattle.pipe_model.specs.Pipelines.Behaviour.{accesses_in}
use Rattle.pipe_model.specs.Pipelines.WholePrograms.{init_accesses}
use Rattle.pipe_model.specs.Runs.State.{accesses_of}
use Rattle.serial_elision.proofs.Elisions.{last_trace, ran_to_end, trapped_in_loop}
use Rattle.serial_elision.proofs.PartRuns.{has_output}
use Rattle.serial_elision.proofs.elision.run_final.Goals as goal

pub returns-then-is_some : goal.returns-then-is_some
returns-then-is_some c =
    let w = whole_of (tree_of c.args.prepared.now.checked.now) c.args.prepared.now.input.now in
    let run = c.args.run in
    let some : is_some run.trap ≡ true = sym c.is_some.ensures ∙ c.if-is_some.true in
    trapped_in_loop w run c.into_output.result c.requires.no_trap c.requires.ran some
    (c.into_output.ensures.output w.loop.store (init_accesses w ++ accesses_of run.log.accesses) c.requires.ran.cells
    (has_output run.log.cells c.requires.serves.whole))

pub returns : goal.returns
returns c =
    let w = whole_of (tree_of c.args.prepared.now.checked.now) c.args.prepared.now.input.now in
    let run = c.args.run in
    let before = init_accesses w ++ accesses_of run.log.accesses in
    let none : is_some run.trap ≡ false = sym c.is_some.ensures ∙ c.if-is_some.false in
    ran_to_end w run c.into_output-2.result c.in_ok-last.last.trap c.requires.no_trap c.requires.ran none
    (c.in_ok-last.ensures.trap before c.requires.ran.cells)
    (c.into_output-2.ensures.output w.loop.store (before ++ accesses_in (last_trace w (accesses_of run.log.accesses)))
    (c.in_ok-last.ensures.state before c.requires.ran.cells)
    (has_output c.in_ok-last.last.cells c.in_ok-last.ensures.serves.whole))
