use Rattle.std.proofs.Common.{◌≡◌, ◌∙◌, [], ap, sym, false}
use Rattle.std.specs.Prelude.{is_some}
use Rattle.pipe_model.specs.Language.ProgramsOfTrees.{whole_of}
use Rattle.pipe_model.specs.Language.SyntaxTree.{tree_of}
use Rattle.pipe_model.specs.Pipelines.WholePrograms.{init_trap}
use Rattle.serial_elision.proofs.Results.{map_ok}
use Rattle.record_check.proofs.ProgramRecords.{program_answer}
use Rattle.record_check.proofs.check_record.check_prepared.Goals as goal

pub returns : goal.returns
returns c =
    let w = whole_of (tree_of c.args.prepared.now.checked.now) c.args.prepared.now.input.now in
    let trap : c.in_ok-init.init.trap ≡ init_trap w = c.in_ok-init.ensures.trap [] c.in_ok-cells.ensures.state in
    let none : is_some (init_trap w) ≡ false = ap is_some (sym trap) ∙ sym c.is_some.ensures ∙ c.if-is_some.false in
    map_ok c.check_loop.result c.check_loop.ensures (λ r a. program_answer w none a)
