use Rattle.std.proofs.Common.{◌≡◌, ◌+◌, length, take}
use Rattle.schedule_play.specs.Turns.{iteration_turns}
use Rattle.schedule_play.proofs.turns.turn_at.Given as goal

abbrev pub invariant-loop-entry : goal.invariant-loop-entry
invariant-loop-entry l = length (iteration_turns l.room (take l.entry-index l.alive)) + l.left ≡ l.index
