use Rattle.std.proofs.Common.{◌≡◌, ◌≢◌, ◌∙◌, ap, sym, subst, refl, ℕ, ℤ, List, Option, Some, None, IfSome}
use Rattle.std.specs.Prelude.{option_map}
use Rattle.pipe_model.specs.declared.stage.StageEnd.{StageEnd}
use Rattle.pipe_model.specs.declared.stage.StageEnd.TheVariants as stage_ends
use Rattle.pipe_model.specs.declared.ticket.Entry.{Entry}
use Rattle.pipe_model.specs.Pipelines.Behaviour.{Behaviour}
use Rattle.stage_code.specs.FlatCode.{FlatCode}
use Rattle.stage_interp.specs.MachineState.{RunState}
use Rattle.frame_book.specs.BookStates.{item_or}
use Rattle.schedule_play.specs.declared.running_instance.NextAction.{NextAction}
use Rattle.schedule_play.specs.declared.running_instance.NextAction.TheVariants as actions
use Rattle.schedule_play.specs.RunningIterations.{RunningIterationState}
use Rattle.schedule_play.specs.PlayStates.{pipeline_played, run_state}
use Rattle.schedule_play.specs.RunningInstances.{IsUnderWay}
use Rattle.schedule_play.proofs.Playing.Accesses.{fits, slot_within}
use Rattle.schedule_play.proofs.Playing.Enters.{enters_next, frame_of_next, runs_by_slot}
use Rattle.schedule_play.proofs.player.Player.next.Goals as goal

-- the slot, by what is known of its next event
no_slot : (o : Option RunningIterationState) → option_map (λ (h : RunningIterationState). h.next) o ≡ None → o ≡ None
no_slot None e = refl
no_slot (Some h) e = absurd (cc)

slot : (o : Option RunningIterationState) (end : NextAction) → option_map (λ (h : RunningIterationState). h.next) o ≡ Some end
    → (h : RunningIterationState) × (o ≡ Some h) × (h.next ≡ end)
slot None end e = absurd (cc)
slot (Some h) end e = (h, refl, cc)

-- an instance that ends next was not stopped
ends_apart : {code : FlatCode} {cells : ℕ} {input : List ℤ} {t : Behaviour} {run : RunState} {trace : List Entry} {next : NextAction}
    {end : StageEnd}
    → IsUnderWay code cells input t run trace next → next ≡ actions.End end → end ≢ stage_ends.Stopped
ends_apart {code} {cells} {input} {t} {run} {trace} h is = (subst (IsUnderWay code cells input t run trace) is h).is_at.0

pub next_of_running-requires : goal.next_of_running-requires
next_of_running-requires g c =
    let code = g.B.PlayedCode.code in
    let cells = g.B.PlayedCode.cells in
    let v = c.args.self.now in
    let f = frame_of_next (pipeline_played v) (run_state v) c.args.iteration c.requires.next.0 c.requires.next.1 in
    record { there = slot_within code cells v c.requires.play c.args.iteration f.0 f.1 }

pub enter-requires-clause-next : goal.enter-requires-clause-next
enter-requires-clause-next g c =
    let code = g.B.PlayedCode.code in
    let cells = g.B.PlayedCode.cells in
    let v = c.args.self.now in
    enters_next code cells v c.requires.play c.args.iteration
    (no_slot (item_or None v.running c.args.iteration) (sym c.next_of_running.ensures ∙ c.in_default.is))
    c.requires.next.0 c.requires.next.1

pub access-requires-clause-runs : goal.access-requires-clause-runs
access-requires-clause-runs g c =
    let code = g.B.PlayedCode.code in
    let cells = g.B.PlayedCode.cells in
    let v = c.args.self.now in
    let k = slot (item_or None v.running c.args.iteration) actions.Access
    (sym c.next_of_running.ensures ∙ c.in-Some.is ∙ ap Some c.in-Access.is) in
    runs_by_slot code cells v c.requires.play c.args.iteration k.0 k.1 c.requires.next.0 c.requires.next.1

pub access-requires-clause-next : goal.access-requires-clause-next
access-requires-clause-next g c =
    let v = c.args.self.now in
    let k = slot (item_or None v.running c.args.iteration) actions.Access
    (sym c.next_of_running.ensures ∙ c.in-Some.is ∙ ap Some c.in-Access.is) in
    subst (λ o. IfSome o (λ (h : RunningIterationState). h.next ≡ actions.Access)) (sym k.1) k.2

pub end-requires-clause-runs : goal.end-requires-clause-runs
end-requires-clause-runs g c =
    let code = g.B.PlayedCode.code in
    let cells = g.B.PlayedCode.cells in
    let v = c.args.self.now in
    let k = slot (item_or None v.running c.args.iteration) (actions.End c.in-End.end)
    (sym c.next_of_running.ensures ∙ c.in-Some.is ∙ ap Some c.in-End.is) in
    runs_by_slot code cells v c.requires.play c.args.iteration k.0 k.1 c.requires.next.0 c.requires.next.1

pub end-requires-clause-next : goal.end-requires-clause-next
end-requires-clause-next g c =
    let v = c.args.self.now in
    let k = slot (item_or None v.running c.args.iteration) (actions.End c.in-End.end)
    (sym c.next_of_running.ensures ∙ c.in-Some.is ∙ ap Some c.in-End.is) in
    subst (λ o. IfSome o (λ (h : RunningIterationState). h.next ≡ actions.End c.in-End.end)) (sym k.1) k.2

pub end-requires-clause-ends : goal.end-requires-clause-ends
end-requires-clause-ends g c =
    let code = g.B.PlayedCode.code in
    let cells = g.B.PlayedCode.cells in
    let v = c.args.self.now in
    let k = slot (item_or None v.running c.args.iteration) (actions.End c.in-End.end)
    (sym c.next_of_running.ensures ∙ c.in-Some.is ∙ ap Some c.in-End.is) in
    let runs = runs_by_slot code cells v c.requires.play c.args.iteration k.0 k.1 c.requires.next.0 c.requires.next.1 in
    let at = fits code cells v c.requires.play c.args.iteration runs.frame runs.is runs.runs k.0 k.1 in
    ends_apart at.instance.under_way k.2
