use Rattle.std.proofs.Common.{◌≡◌, ◌∙◌, [], ap, sym, true}
use Rattle.std.specs.Prelude.{is_some}
use Rattle.pipe_model.specs.Language.ProgramsOfTrees.{whole_of}
use Rattle.pipe_model.specs.Language.SyntaxTree.{tree_of}
use Rattle.pipe_model.specs.Pipelines.WholePrograms.{init_accesses, init_trap}
use Rattle.serial_elision.proofs.Elisions.{trapped_in_init}
use Rattle.serial_elision.proofs.PartRuns.{has_output}
use Rattle.serial_elision.proofs.elision.run_whole.Goals as goal

pub returns-then-is_some : goal.returns-then-is_some
returns-then-is_some c =
    let w = whole_of (tree_of c.args.prepared.now.checked.now) c.args.prepared.now.input.now in
    let begun = c.in_ok-cells.ensures.state in
    let some : is_some c.in_ok-init.init.trap ≡ true = sym c.is_some.ensures ∙ c.if-is_some.true in
    let whole = trapped_in_init w c.into_output.result c.in_ok-init.init.trap (c.in_ok-init.ensures.trap [] begun) some
    (c.into_output.ensures.output w.loop.store (init_accesses w) (c.in_ok-init.ensures.state [] begun)
    (has_output c.in_ok-init.init.cells c.in_ok-init.ensures.serves.whole)) in
    rw (c.new.ensures, c.new-then-is_some.ensures) whole

pub run_final-requires-clause-no_trap : goal.run_final-requires-clause-no_trap
run_final-requires-clause-no_trap c =
    let w = whole_of (tree_of c.args.prepared.now.checked.now) c.args.prepared.now.input.now in
    let trap : c.in_ok-init.init.trap ≡ init_trap w = c.in_ok-init.ensures.trap [] c.in_ok-cells.ensures.state in
    ap is_some (sym trap) ∙ sym c.is_some.ensures ∙ c.if-is_some.false
