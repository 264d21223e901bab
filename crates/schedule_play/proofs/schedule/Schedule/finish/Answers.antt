use Rattle.std.proofs.Common.{◌∙◌, ◌+◌, ap, filter, refl, subst, sym}
use Rattle.std.specs.Prelude.{◌==◌}
use Rattle.schedule_play.specs.declared.changes.Change.TheVariants.{Ended}
use Rattle.schedule_play.specs.AliveChanges.{is_other}
use Rattle.schedule_play.specs.AliveLists.{IsRising}
use Rattle.schedule_play.specs.ScheduleStates.{IsScheduleOf, ScheduleState, goes_on}
use Rattle.schedule_play.proofs.AliveLists.{rising_changed}
use Rattle.schedule_play.proofs.ScheduleEvents.{finished, rising_kept, same_schedule}
use Rattle.schedule_play.proofs.schedule.Schedule.finish.Goals as goal

pub returns-clause-schedule : goal.returns-clause-schedule
returns-clause-schedule c = λ s h runs.
    let inside = c.self.inside in
    let i = c.args.iteration in
    let e = c.args.end in
    let before = subst (IsScheduleOf s) (sym c.self.view_is) h in
    let rise = rising_kept s _ before in
    let changed = c.change.ensures.entries rise in
    let left = subst IsRising (sym changed) (rising_changed (Ended i) 0 inside.alive.entries rise) in
    let removed = c.remove.ensures.entries left ∙ ap (filter (is_other i)) changed in
    let last = c.is_last-last.ensures ∙ ap (λ (v : ScheduleState). i + 1 == v.begun) (sym c.self.view_is) in
    let continues = c.goes_on-self-inside.ensures ∙ ap (λ b. goes_on inside.continues b c.closes.result) last
    ∙ ap (goes_on inside.continues (i + 1 == inside.begun)) c.closes.ensures in
    same_schedule _ _ _ removed refl continues (finished s _ i e before runs)
