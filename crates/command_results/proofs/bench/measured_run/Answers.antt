use Rattle.std.proofs.Common.{◌∙◌, sym}
use Rattle.pipe_model.specs.Language.SyntaxTree.{tree_of}
use Rattle.command_results.proofs.BenchLaws.{counts_are_few, measures_the_elision}
use Rattle.command_results.proofs.RunTexts.{none_left}
use Rattle.command_results.proofs.bench.measured_run.Goals as goal

pub measure-requires : goal.measure-requires
measure-requires g c =
    counts_are_few (tree_of c.args.checked.now) c.args.input.now _
    (c.in_ok-columns.ensures ∙ c.in_ok-run.ensures.columns (none_left _ (sym c.is_empty.ensures ∙ c.if-is_empty.true))) c.requires.bounded

pub returns-then-is_empty : goal.returns-then-is_empty
returns-then-is_empty g c =
    let none = none_left _ (sym c.is_empty.ensures ∙ c.if-is_empty.true) in
    measures_the_elision (tree_of c.args.checked.now) c.args.input.now _ c.args.workers _ _
    (c.in_ok-columns.ensures ∙ c.in_ok-run.ensures.columns none) (c.in_ok-run.ensures.run.output none) c.measure.ensures

pub measure-measured-requires : goal.measure-measured-requires
measure-measured-requires g c =
    counts_are_few (tree_of c.args.checked.now) c.args.input.now _ c.in_ok-elision.ensures.columns_are c.requires.bounded

pub returns : goal.returns
returns g c =
    measures_the_elision (tree_of c.args.checked.now) c.args.input.now _ c.args.workers _ _
    c.in_ok-elision.ensures.columns_are c.in_ok-elision.ensures.output_is c.measure-measured.ensures
