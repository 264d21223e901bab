-- The token of a running instance, by a state and its starts.
use Rattle.std.proofs.Common.{◌≡◌, suc, List, length, sym, subst}
use Rattle.pipe_model.specs.declared.event.Event.{Event}
use Rattle.pipe_model.specs.declared.node.NodeId.{NodeId}
use Rattle.pipe_model.specs.Runs.Allowed.{IsRunning}
use Rattle.pipe_model.specs.Runs.RunLogs.{state_after}
use Rattle.pipe_model.specs.Orders.OrderMarks.{instance_marks}
use Rattle.pipe_model.specs.Orders.Starts.{starts_of}
use Rattle.pipe_model.specs.Runs.State.{State, own_columns}
use Rattle.pipe_frame.specs.RunningTokens.{IsTokenOf, left_joined}
use Rattle.pipe_frame.specs.LeftCounters.{IsNotAhead}
use Rattle.pipe_frame.specs.TokenFields.{TokenFields}

-- as `IsTokenOf`, without the events
pub record IsTokenAt (c : State) (starts : List NodeId) (t : TokenFields) : Type 0 where
  pub running : IsRunning c t.iteration
  pub index : length running.frame.nodes ≡ suc t.index
  pub marks : t.marks ≡ instance_marks (own_columns c) starts t.iteration t.index
  pub joined : t.joined ≡ left_joined (own_columns c) t.iteration t.index
  pub folded : IsNotAhead c.frames t.iteration t.folded

-- the same at events
pub token_at_events : (es : List Event) (c : State) (starts : List NodeId) (t : TokenFields) → state_after es ≡ c → starts_of es ≡ starts
    → IsTokenAt c starts t → IsTokenOf es t
token_at_events es c starts t e s h =
    let q : IsTokenAt (state_after es) (starts_of es) t = subst (λ x. IsTokenAt x (starts_of es) t) (sym e)
    (subst (λ x. IsTokenAt c x t) (sym s) h) in
    record { running = q.running; index = q.index; marks = q.marks; joined = q.joined; folded = q.folded }
