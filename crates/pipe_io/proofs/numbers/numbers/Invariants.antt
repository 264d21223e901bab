use Rattle.std.proofs.Common.{length}
use Rattle.pipe_io.proofs.ReadingLaws.{Reaches}
use Rattle.pipe_io.proofs.numbers.numbers.Given as goal

abbrev pub invariant-loop-first : goal.invariant-loop-first
invariant-loop-first l = Reaches l.bytes l.found l.rest

abbrev pub decreases-loop-first : goal.decreases-loop-first
decreases-loop-first l = length l.rest
