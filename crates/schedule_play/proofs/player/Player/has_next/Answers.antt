use Rattle.std.proofs.Common.{sym}
use Rattle.schedule_play.proofs.NextTurns.{running_has_next}
use Rattle.schedule_play.proofs.player.Player.has_next.Goals as goal

pub returns-then-is_running : goal.returns-then-is_running
returns-then-is_running g c =
    sym (running_has_next g.B.PlayedCode.code g.B.PlayedCode.cells c.args.self.now c.args.iteration c.requires.play
    (c.is_running.ensures c.if-is_running.true))
