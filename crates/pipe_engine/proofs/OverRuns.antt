-- A run that is over stays over: after the end only a stop is allowed, and nothing after a stop.
use Rattle.std.proofs.Common.{◌≡◌, ◌∙◌, ◌++◌, ◌∷◌, [], ℕ, List, true, false, inl, inr, refl, sym, ap, subst, append_assoc, append-nil}
use Rattle.frame_book.proofs.Conditions.Rescue.{open_by_begin}
use Rattle.pipe_engine.specs.SeenRuns.{HasSeenOver}
use Rattle.pipe_frame.specs.HallViews.{BeginsWith}
use Rattle.pipe_model.specs.declared.event.Event.{Event}
use Rattle.pipe_model.specs.declared.event.Event.TheVariants.{Begin, Access, Advance, Enter, Finish, Stop}
use Rattle.pipe_model.specs.Runs.Allowed.{ControlAllows, IsRunning, MayBegin, MayEnter}
use Rattle.pipe_model.specs.Runs.ControlRun.{ControlRun}
use Rattle.pipe_model.specs.Runs.Run.{IsFinished}
use Rattle.pipe_model.specs.Runs.RunLogs.{state_after}
use Rattle.pipe_model.specs.Runs.State.{State, initial_state, is_completed}
use Rattle.worker_tasks.specs.Tasks.{IsOver}
use Rattle.run_laws.proofs.ListOrders.SoundStarts.{control_starts_sound}
use Rattle.run_laws.proofs.LogMerge.ControlStates.{IsAllowedAt, allowed_at, control_state_is}
use Rattle.run_laws.proofs.RunStates.FrameMoves.{IsSound}
use Rattle.run_laws.proofs.RunStates.FrontAndBack.{state_from-push}

none_runs : (s : State) (i : ℕ) → IsFinished s → IsRunning s i → ⊥
none_runs s i h r =
    let done : false ≡ true = ap is_completed (sym r.runs) ∙ h.over i r.frame r.is in
    absurd (cc)

none_waits : (s : State) (i : ℕ) → IsFinished s → MayEnter s i → ⊥
none_waits s i h m =
    let done : false ≡ true = ap is_completed (sym m.named) ∙ h.over i m.frame m.is in
    absurd (cc)

only_stops : (limit : ℕ) (s : State) (e : Event) → IsSound s.frames → IsFinished s → ControlAllows limit s e → e ≡ Stop
only_stops limit s (Begin i) sound h may = absurd ((open_by_begin limit s sound (subst (λ k. MayBegin limit s k) may.number may)).0 h.shut)
only_stops limit s (Access i a) sound h may = absurd (none_runs s i h may)
only_stops limit s (Advance i k n) sound h may = absurd (none_runs s i h may.running)
only_stops limit s (Enter i) sound h may = absurd (none_waits s i h may)
only_stops limit s (Finish i e) sound h may = absurd (none_runs s i h may.running)
only_stops limit s Stop sound h may = refl

step : (limit : ℕ) (front : List Event) (e : Event) → IsAllowedAt limit front e → IsOver front → IsOver (front ++ e ∷ [])
step limit front e a over =
    elim over [
      | inl finished ↦ (
          let h = subst IsFinished (sym (control_state_is a.before)) finished in
          let stop = only_stops limit a.state e (control_starts_sound a.before).sound h a.control in
          inr (subst (λ x. (state_after (front ++ x ∷ [])).stopped ≡ true) (sym stop)
          (ap (λ (s : State). s.stopped) (state_from-push initial_state front Stop))))
      | inr stopped ↦ (
          let e : false ≡ true = sym a.going ∙ ap (λ (s : State). s.stopped) (control_state_is a.before) ∙ stopped in
          absurd (cc))
    ]

-- if a run is over, so is each run that continues it
pub over_stays : {limit : ℕ} {events : List Event} {c : State} → ControlRun limit events c → (base rest : List Event)
    → events ≡ base ++ rest → IsOver base → IsOver events
over_stays r base [] same over = subst IsOver (sym (same ∙ append-nil base)) over
over_stays {limit = limit} r base (e ∷ rest) same over =
    over_stays r (base ++ e ∷ []) rest (same ∙ sym (append_assoc base (e ∷ []) rest))
    (step limit base e (allowed_at r base e rest same) over)

pub seen_runs : (limit : ℕ) (events seen : List Event) → ControlRun limit events (state_after events) → BeginsWith events seen
    → HasSeenOver seen → IsOver events
seen_runs limit events seen r begins h =
    over_stays r h.base (h.later.0 ++ begins.0) (begins.1 ∙ ap (λ l. l ++ begins.0) h.later.1 ∙ append_assoc h.base h.later.0 begins.0)
    h.over
