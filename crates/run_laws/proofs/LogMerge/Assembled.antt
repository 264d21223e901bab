-- Conditions on the parts of a list of events under which it is a run.
use Rattle.std.specs.Prelude.{ℕ, List, false, ◌≡◌, ◌∷◌, ◌++◌}
use Rattle.pipe_model.specs.Runs.Allowed.{IsRunning}
use Rattle.pipe_model.specs.Pipelines.Behaviour.{Performs}
use Rattle.pipe_model.specs.Runs.ControlRun.{ControlRun}
use Rattle.run_laws.proofs.LogMerge.EventParts.{control_events, actions_at, accesses_among}
use Rattle.pipe_model.specs.Pipelines.Pipeline.{Pipeline}
use Rattle.pipe_model.specs.Runs.State.{State}
use Rattle.pipe_model.specs.Pipelines.Store.{HasReply}
use Rattle.pipe_model.specs.declared.access.Access.{Access as Cell_access}
use Rattle.pipe_model.specs.declared.event.Event.{Event}
use Rattle.pipe_model.specs.declared.event.Event.TheVariants.{Access}
use Rattle.run_laws.specs.LogLaws.{MakesRun}

-- the control events are a control run, each access is made while its iteration runs, the actions of each iteration
-- are performed, and each read has its reply
pub record IsAssembled (p : Pipeline) (limit : ℕ) (events : List Event) (c : State) : Type 0 where
  pub control : ControlRun limit (control_events events) c
  pub running : (front rest : List Event) (i : ℕ) (a : Cell_access) → events ≡ front ++ Access i a ∷ rest
      → (d : State) → ControlRun limit (control_events front) d → (d.stopped ≡ false) × IsRunning d i
  pub program : (i : ℕ) → Performs (p.behaviour i) (actions_at i events)
  pub replies : (front rest : List Event) (i : ℕ) (a : Cell_access) → events ≡ front ++ Access i a ∷ rest
      → HasReply p.store (p.preamble ++ accesses_among front) a

-- events are a run if their parts are
abbrev pub AssembledIsRun : Type 0
AssembledIsRun =
    (p : Pipeline) (limit : ℕ) (events : List Event) (c : State) → IsAssembled p limit events c
    → MakesRun p limit events c
