-- Runs of a pipeline and runs of the control part have sound starts, and the order laws need nothing else of them.
use Rattle.std.proofs.Common.{ℕ, List, ◌≡◌, ◌∷◌, ◌++◌, [], ◌∙◌, ap, sym, subst}
use Rattle.pipe_model.specs.Runs.ControlRun.{ControlRun, EmptyControlRun, ControlRunThen}
use Rattle.pipe_model.specs.Runs.Run.{state_from}
use Rattle.pipe_model.specs.Orders.Starts.{started_by, starts_of}
use Rattle.pipe_model.specs.Runs.State.{State, initial_state, next_state}
use Rattle.pipe_model.specs.declared.event.Event.{Event}
use Rattle.run_laws.proofs.ListOrders.StartsOfRuns.{IsStartSound, empty_sound, run_starts_sound, sound_step, starts_from-push}
use Rattle.run_laws.proofs.LogMerge.ControlStates.{control_state_is}
use Rattle.run_laws.proofs.RunStates.FrontAndBack.{run_state_is}
use Rattle.run_laws.specs.EachRun.{OfEachRun}

-- the events lead to the state, and its frames and their starts are sound
pub record HasSoundStarts (events : List Event) (s : State) : Type 0 where
  pub state : s ≡ state_from initial_state events
  pub sound : IsStartSound s.frames (starts_of events)

-- the starts with one more event
pub starts_after : (events : List Event) (s : State) → s ≡ state_from initial_state events → (e : Event)
    → starts_of (events ++ e ∷ []) ≡ starts_of events ++ started_by s e
starts_after events s same e =
    starts_from-push initial_state events e ∙ ap (λ u. starts_of events ++ started_by u e) (sym same)

-- the frames and starts of every run of the control part are sound
pub control_starts_sound : {limit : ℕ} {events : List Event} {c : State} → ControlRun limit events c
    → IsStartSound c.frames (starts_of events)
control_starts_sound EmptyControlRun = empty_sound
control_starts_sound {limit} (ControlRunThen {events = es} {c = d} r e quiet going h) =
    subst (IsStartSound (next_state d e).frames) (sym (starts_after es d (control_state_is r) e))
    (sound_step limit d e (starts_of es) h (control_starts_sound r))

-- a law of sound starts is a law of each run
pub of_each_run : {Law : ℕ → List Event → State → Type 0}
    → ((limit : ℕ) (events : List Event) (s : State) → HasSoundStarts events s → Law limit events s) → OfEachRun Law
of_each_run law = record {
  runs = λ p limit events s r. law limit events s (record { state = run_state_is r; sound = run_starts_sound r });
  control_runs = λ limit events c r. law limit events c (record { state = control_state_is r; sound = control_starts_sound r });
}
