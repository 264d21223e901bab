use Rattle.std.proofs.Common.{length}
use Rattle.pipe_parser.proofs.Depths.{Counted}
use Rattle.pipe_parser.proofs.depth.first_too_deep.Given as goal

abbrev pub invariant-loop-first : goal.invariant-loop-first
invariant-loop-first l = Counted l.symbols l.rest l.opened l.closed

abbrev pub decreases-loop-first : goal.decreases-loop-first
decreases-loop-first l = length l.rest
