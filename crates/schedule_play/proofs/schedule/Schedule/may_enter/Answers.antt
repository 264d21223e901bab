use Rattle.std.proofs.Common.{◌∙◌, ap, rules, subst, sym, w64}
use Rattle.std.proofs.lemmas.Int.{to_z-of_z}
use mir.Val.{SFits}
use Rattle.std.specs.List.{list_all}
use Rattle.pipe_model.specs.declared.node.Kind.{Kind}
use Rattle.pipe_model.specs.Runs.NextEvents.{may_enter}
use Rattle.schedule_play.specs.AliveChanges.{passes_left}
use Rattle.schedule_play.specs.ScheduleStates.{IsScheduleOf}
use Rattle.schedule_play.proofs.ChangedEntries.{left_is}
use Rattle.schedule_play.proofs.ScheduleEvents.{rising_kept}
use Rattle.schedule_play.proofs.schedule.Schedule.may_enter.Goals as goal

pub returns-in-Wait : goal.returns-in-Wait
returns-in-Wait c = λ s h.
    let i = c.args.iteration in
    let n = c.args.number in
    let fits : SFits w64 n = search rules in
    let before = subst (IsScheduleOf s) (sym c.self.view_is) h in
    let passed = simp to_z-of_z at (c.passes_left.ensures (rising_kept s _ before)) in
    passed ∙ ap (list_all (passes_left i n)) before.alive
    ∙ left_is s.frames i n ∙ sym (ap (λ (k : Kind). may_enter s.frames i k n) c.in-Wait.is)
