use Rattle.std.proofs.Common.{◌≡◌, ◌∙◌, ap, append-nil, sym, true}
use Rattle.std.specs.Prelude.{is_some}
use Rattle.pipe_model.specs.Language.Programs.{store_of}
use Rattle.pipe_model.specs.Language.ProgramsOfTrees.{whole_of}
use Rattle.pipe_model.specs.Language.SyntaxTree.{tree_of}
use Rattle.pipe_model.specs.Pipelines.Store.{output_of}
use Rattle.pipe_model.specs.Pipelines.WholePrograms.{init_accesses, init_trap}
use Rattle.pipe_model.specs.Runs.State.{initial_state}
use Rattle.program_ends.proofs.RunResults.{trapped_before}
use Rattle.serial_elision.proofs.Elisions.{first_or_none}
use Rattle.serial_elision.proofs.PartRuns.{has_output}
use Rattle.program_ends.proofs.ends.end_after_init.Goals as goal

pub returns : goal.returns
returns c = λ ran.
    let tree = tree_of c.args.prepared.now.checked.now in
    let input = c.args.prepared.now.input.now in
    let w = whole_of tree input in
    let some : is_some c.args.trap ≡ true = c.requires.trapped in
    let all = c.into_output.ensures.output (store_of tree) (init_accesses w) c.requires.state
    (has_output c.args.cells c.requires.serves.whole) in
    trapped_before w ran initial_state c.into_output.result c.args.trap some (c.requires.trap ∙ sym (first_or_none (init_trap w)))
    (all ∙ ap (output_of (store_of tree)) (sym (append-nil (init_accesses w))))
