use Rattle.std.proofs.Common.{◌≡◌, ◌∙◌, ap, sym, true}
use Rattle.std.specs.Prelude.{is_some}
use Rattle.pipe_model.specs.Language.ProgramsOfTrees.{whole_of}
use Rattle.pipe_model.specs.Language.SyntaxTree.{tree_of}
use Rattle.pipe_model.specs.Pipelines.WholePrograms.{init_trap}
use Rattle.schedule_play.proofs.PlayedPrograms.{trapped_in_init}
use Rattle.schedule_play.proofs.program_play.end_after_init.Goals as goal

pub returns : goal.returns
returns c =
    let tree = tree_of c.args.prepared.now.checked.now in
    let input = c.args.prepared.now.input.now in
    let trapped : is_some (init_trap (whole_of tree input)) ≡ true = ap is_some (sym c.requires.trap) ∙ c.requires.trapped in
    rw (c.new.ensures, c.new-2.ensures, c.new-3.ensures)
    (trapped_in_init tree input c.args.limits c.args.choices.now c.end_after_init-output.result trapped
    (c.end_after_init-output.ensures true))
