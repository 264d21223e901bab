use Rattle.std.proofs.Common.{length}
use Rattle.pipe_lexer.proofs.ScanLaws.{Reaches}
use Rattle.pipe_lexer.proofs.scan.tokens.Given as goal

abbrev pub invariant-loop-rest : goal.invariant-loop-rest
invariant-loop-rest l = Reaches l.source l.found l.rest

abbrev pub decreases-loop-rest : goal.decreases-loop-rest
decreases-loop-rest l = length l.rest
