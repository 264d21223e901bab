use Rattle.std.proofs.Common.{length}
use Rattle.record_parser.proofs.ReadLines.{HasRead}
use Rattle.record_parser.proofs.parse.read_lines.Given as goal

abbrev pub invariant-loop-rest : goal.invariant-loop-rest
invariant-loop-rest l = HasRead l.cells l.text l.rest l.number l.events

abbrev pub decreases-loop-rest : goal.decreases-loop-rest
decreases-loop-rest l = length l.rest
