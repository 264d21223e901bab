use Rattle.std.proofs.Common.{◌∙◌, ◌&&◌, ap, subst, sym}
use Rattle.std.specs.Prelude.{is_some}
use Rattle.pipe_model.specs.Runs.NextEvents.{next_begin}
use Rattle.schedule_play.specs.ScheduleStates.{IsScheduleOf, ScheduleState}
use Rattle.schedule_play.proofs.ScheduleEvents.{may_begin_is}
use Rattle.schedule_play.proofs.schedule.Schedule.may_begin.Goals as goal

pub returns-then-has_place : goal.returns-then-has_place
returns-then-has_place c = λ s h.
    let inside = c.self.inside in
    let view = c.self.view_is in
    ap (λ b. b && inside.continues) (sym c.if-has_place.true ∙ c.has_place.ensures)
    ∙ may_begin_is s _ (subst (IsScheduleOf s) (sym view) h)
    ∙ ap (λ (v : ScheduleState). is_some (next_begin v.limit s)) view

pub returns-else-has_place : goal.returns-else-has_place
returns-else-has_place c = λ s h.
    let inside = c.self.inside in
    let view = c.self.view_is in
    let full = c.if-has_place.false in
    full ∙ sym (ap (λ b. b && inside.continues) (sym c.has_place.ensures ∙ full))
    ∙ may_begin_is s _ (subst (IsScheduleOf s) (sym view) h)
    ∙ ap (λ (v : ScheduleState). is_some (next_begin v.limit s)) view
