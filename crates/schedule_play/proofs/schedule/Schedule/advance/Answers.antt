use Rattle.std.proofs.Common.{◌∙◌, ◌+◌, ap, false, refl, rules, subst, sym, w64}
use Rattle.std.specs.Prelude.{◌==◌}
use Rattle.std.proofs.lemmas.Int.{to_z-of_z}
use mir.Val.{SFits}
use Rattle.schedule_play.specs.ScheduleStates.{IsScheduleOf, ScheduleState, goes_on}
use Rattle.schedule_play.proofs.ScheduleEvents.{advanced, rising_kept, same_schedule}
use Rattle.schedule_play.proofs.schedule.Schedule.advance.Goals as goal

pub returns-clause-schedule : goal.returns-clause-schedule
returns-clause-schedule c = λ s h may.
    let inside = c.self.inside in
    let i = c.args.iteration in
    let n = c.args.number in
    let kind = c.args.kind in
    let free = c.may_enter-may_enter.result in
    let fits : SFits w64 n = search rules in
    let enters = simp to_z-of_z at (c.may_enter-may_enter.ensures s h) in
    let before = subst (IsScheduleOf s) (sym c.self.view_is) h in
    let changed = simp to_z-of_z at (c.change.ensures.entries (rising_kept s _ before)) in
    let last = c.is_last-last.ensures ∙ ap (λ (v : ScheduleState). i + 1 == v.begun) (sym c.self.view_is) in
    let continues = c.goes_on-self-inside.ensures ∙ ap (λ b. goes_on inside.continues b false) last in
    same_schedule _ _ _ changed refl continues (advanced s _ i kind n free before may enters)
