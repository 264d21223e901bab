use Rattle.std.proofs.Common.{ap, refl, subst, sym}
use Rattle.schedule_play.specs.AliveLists.{AliveListState}
use Rattle.schedule_play.specs.ScheduleStates.{IsScheduleOf}
use Rattle.schedule_play.proofs.ScheduleEvents.{has_begun, same_schedule}
use Rattle.schedule_play.proofs.schedule.Schedule.begin.Goals as goal

pub returns-clause-schedule : goal.returns-clause-schedule
returns-clause-schedule c = λ s h.
    let pushed = ap (λ (l : AliveListState). l.entries) c.push.ensures in
    same_schedule _ _ _ pushed refl refl (has_begun s _ c.self.inside.begun (subst (IsScheduleOf s) (sym c.self.view_is) h))
