use Rattle.std.proofs.lemmas.Result.{IfOk-weaker}
use Rattle.pipe_model.specs.Language.SyntaxTree.{tree_of}
use Rattle.command_results.proofs.BenchLaws.{same_summary}
use Rattle.command_results.proofs.InstanceCounts.{elision_is_small}
use Rattle.command_results.proofs.bench.bench.Goals as goal

pub summary_of-summary-requires-clause-bounded : goal.summary_of-summary-requires-clause-bounded
summary_of-summary-requires-clause-bounded g c = λ lifetimes outlives.
    elision_is_small c.args.size (tree_of c.in_ok-program.program) c.in_ok-program.numbers c.requires.size.0 c.requires.size.1
    c.in_ok-program.ensures.program

pub returns : goal.returns
returns g c =
    IfOk-weaker c.summary_of-summary.result _ _
    (λ text is other others h. same_summary c.args.seed c.args.size (tree_of c.in_ok-program.program) other c.in_ok-program.numbers others
    text c.in_ok-program.ensures is h)
    c.summary_of-summary.ensures
