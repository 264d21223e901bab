use Rattle.pipe_model.specs.Language.SyntaxTree.{tree_of}
use Rattle.command_results.proofs.SerialDags.{given_accesses_inside, given_columns_rise, given_races}
use Rattle.command_results.proofs.program_run.run_elision.Goals as goal

pub of-requires : goal.of-requires
of-requires c = given_columns_rise (tree_of c.args.checked.now) c.args.input.now _ c.requires c.in_ok-output.ensures.columns_are

pub races-requires : goal.races-requires
races-requires c =
    given_accesses_inside (tree_of c.args.checked.now) c.args.input.now _ _ _ c.requires c.in_ok-of.ensures
    c.in_ok-output.ensures.columns_are c.in_ok-output.ensures.accesses_are

pub returns-clause-reports : goal.returns-clause-reports
returns-clause-reports c =
    given_races (tree_of c.args.checked.now) c.args.input.now _ _ _ _ c.in_ok-of.ensures c.in_ok-output.ensures.columns_are
    c.in_ok-output.ensures.accesses_are c.in_ok-races.ensures
