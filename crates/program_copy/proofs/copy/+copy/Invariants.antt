use Rattle.std.proofs.Common.{◌≡◌, ◌++◌, drop, map}
use Rattle.pipe_model.specs.Language.SyntaxTree.{statement_of}
use Rattle.program_copy.proofs.copy.+copy.Given as goal

abbrev pub invariant-copy_block-loop-s : goal.invariant-copy_block-loop-s
invariant-copy_block-loop-s l = map statement_of l.statements.items ++ map statement_of (drop l.s-index l.s-items) ≡ map statement_of
    l.s-items
