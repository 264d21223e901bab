use Rattle.schedule_play.proofs.Playing.Turns.{HasPlayed}
use Rattle.schedule_play.proofs.play.play_turns.Given as goal

abbrev pub invariant-loop-turn : goal.invariant-loop-turn
invariant-loop-turn g l = HasPlayed g.B.PlayedCode.code g.B.PlayedCode.cells l.fn.player l.player l.workers l.choices l.turns l.turn
