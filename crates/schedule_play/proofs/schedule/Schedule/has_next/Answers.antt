use Rattle.std.proofs.Common.{◌∙◌, ap}
use Rattle.schedule_play.specs.ScheduleStates.{ScheduleState}
use Rattle.schedule_play.proofs.NextTurns.{has_next_is}
use Rattle.schedule_play.proofs.schedule.Schedule.has_next.Goals as goal

pub returns : goal.returns
returns c = λ p s h.
    c.has_next.ensures ∙ has_next_is p s c.args.iteration c.entries.result.now
    (c.entries.ensures ∙ ap (λ (v : ScheduleState). v.alive) c.self.view_is ∙ h.alive)
