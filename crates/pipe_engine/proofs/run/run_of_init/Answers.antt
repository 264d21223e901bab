use Rattle.std.proofs.Common.{◌≡◌, ◌∙◌, ap, sym, true}
use Rattle.std.specs.Prelude.{is_some}
use Rattle.pipe_engine.proofs.EngineRuns.{trapped_in_init}
use Rattle.pipe_model.specs.Language.ProgramsOfTrees.{whole_of}
use Rattle.pipe_model.specs.Language.SyntaxTree.{tree_of}
use Rattle.pipe_model.specs.Pipelines.WholePrograms.{init_trap}
use Rattle.pipe_engine.proofs.run.run_of_init.Goals as goal

pub returns : goal.returns
returns c = λ limit.
    let tree = tree_of c.args.prepared.now.checked.now in
    let input = c.args.prepared.now.input.now in
    let trapped : is_some (init_trap (whole_of tree input)) ≡ true = ap is_some (sym c.requires.trap) ∙ c.requires.trapped in
    rw (c.of_run_log.ensures, c.new.ensures, c.new-2.ensures, c.new-3.ensures)
    (trapped_in_init tree input limit c.end_after_init-output.result c.requires.accepted trapped (c.end_after_init-output.ensures true))
