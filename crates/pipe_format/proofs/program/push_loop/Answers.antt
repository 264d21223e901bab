use Rattle.pipe_model.specs.Language.SyntaxTree.{expression_of, statements_of}
use Rattle.pipe_format.proofs.Lines.{on_ok}
use Rattle.pipe_format.proofs.Parts.{loop_by_parts}
use Rattle.pipe_format.proofs.program.push_loop.Goals as goal

pub returns : goal.returns
returns c =
    on_ok c.push_line.result (λ h. loop_by_parts (expression_of c.args.test.now) (statements_of c.args.body.now.statements.items)
    c.args.text.now.items
    c.push_between.new.text.items c.push_block.new.text.items _ c.in_ok-push_between.ensures c.in_ok-push_block.ensures h)
    c.push_line.ensures
