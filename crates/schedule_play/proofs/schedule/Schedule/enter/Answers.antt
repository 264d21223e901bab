use Rattle.std.proofs.Common.{refl, subst, sym}
use Rattle.schedule_play.specs.ScheduleStates.{IsScheduleOf}
use Rattle.schedule_play.proofs.ScheduleEvents.{has_entered, rising_kept, same_schedule}
use Rattle.schedule_play.proofs.schedule.Schedule.enter.Goals as goal

pub returns-clause-schedule : goal.returns-clause-schedule
returns-clause-schedule c = λ s h may.
    let before = subst (IsScheduleOf s) (sym c.self.view_is) h in
    let changed = c.change.ensures.entries (rising_kept s _ before) in
    same_schedule _ _ _ changed refl refl (has_entered s _ c.args.iteration before may)
