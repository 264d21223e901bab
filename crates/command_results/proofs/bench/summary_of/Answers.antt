use Rattle.pipe_model.specs.Language.SyntaxTree.{tree_of}
use Rattle.command_results.proofs.BenchLaws.{summary_made}
use Rattle.command_results.proofs.bench.summary_of.Goals as goal

pub returns : goal.returns
returns g c =
    summary_made (tree_of c.args.program.now) c.args.numbers.now _ _ _ _ c.len.ensures c.in_ok-with_one.ensures c.in_ok-with_eight.ensures
    c.summary_text.ensures
