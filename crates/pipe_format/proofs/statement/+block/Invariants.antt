use Rattle.std.proofs.Common.{◌≡◌, ◌++◌, drop}
use Rattle.pipe_model.specs.Language.CanonicalText.{statements_text}
use Rattle.pipe_model.specs.Language.SyntaxTree.{statements_of}
use Rattle.pipe_format.proofs.statement.+block.Given as goal

abbrev pub invariant-push_block-loop-s : goal.invariant-push_block-loop-s
invariant-push_block-loop-s l =
    l.text.items ++ statements_text l.deeper (statements_of (drop l.s-index l.s-items))
    ≡ l.fn.text.items ++ statements_text l.deeper (statements_of l.s-items)
