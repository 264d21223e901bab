-- What a worker sees of the scheduler in one call.
use Rattle.std.specs.Prelude.{◌≡◌, ℕ, ℤ, List, [], ◌∷◌, ◌++◌, Option, Some, None, Contains}
use Rattle.pipe_model.specs.declared.access.Access.{Access}
use Rattle.pipe_model.specs.declared.event.Event.{Event}
use Rattle.pipe_model.specs.declared.ticket.Entry.{Entry}
use Rattle.pipe_model.specs.Pipelines.Behaviour.{read_access, write_access}
use Rattle.pipe_model.specs.Runs.Allowed.{IsRunning}
use Rattle.pipe_model.specs.Runs.RunLogs.{state_after}
use Rattle.pipe_model.specs.Runs.State.{State}
use Rattle.pipe_frame.specs.CallResults.{RescueReturns, rescue_events}
use Rattle.pipe_frame.specs.Ties.{InstanceSeat, SeenLists, Tie}
use Rattle.pipe_frame.specs.TokenFields.{TokenFields}
use Rattle.pipe_frame.specs.declared.results.Reply.{Reply}
use Rattle.pipe_frame.specs.declared.results.Reply.TheVariants.{Value, Done, Stopped}
use Rattle.pipe_frame.specs.declared.results.Rescue.{Rescue}

-- ---- events

abbrev pub BeginsWith : {X : Type 0} → List X → List X → Type 0
BeginsWith {X} whole part = (rest : List X) × (whole ≡ part ++ rest)

-- a call found the events `base` in the book, which begin with those seen before; its result is right after them, and its own events
-- follow
pub record Sees (before after own : List Event) (Returns : State → Type 0) : Type 0 where
  pub base : List Event
  pub later : BeginsWith base before
  pub adds : after ≡ base ++ own
  pub returns : Returns (state_after base)

-- the same of `rescue`; which iterations had been left ready is not known
pub record RescueSees {M : Type 0} (limit : ℕ) (before after : List Event) (result : Rescue M) : Type 0 where
  pub base : List Event
  pub later : BeginsWith base before
  pub adds : after ≡ base ++ rescue_events (state_after base) result
  pub ready : List ℕ
  pub running : (i : ℕ) → Contains ready i → IsRunning (state_after base) i
  pub returns : RescueReturns limit (state_after base) (λ i. Contains ready i) result

-- ---- accesses

-- the identities of the lists that were seen
abbrev pub identities_of : Option SeenLists → List (List ℕ)
identities_of None = []
identities_of (Some l) = l.down ∷ l.right ∷ []

-- the hall and the number of a seat, its instance and the replies before that
abbrev pub SameSeat : Option InstanceSeat → Option InstanceSeat → Type 0
SameSeat None None = Unit {0}
SameSeat None (Some s) = ⊥
SameSeat (Some r) None = ⊥
SameSeat (Some r) (Some s) = (s.hall ≡ r.hall) × (s.seat ≡ r.seat) × (s.fields ≡ record r.fields { now = s.fields.now })
    × (s.replies ≡ r.replies)

-- only the ticket of the token has changed, and of its payload only what was seen of the lists and what the seat has of tickets and
-- accesses
pub record IsSameInstance (old new : TokenFields) (old_tie new_tie : Tie) : Type 0 where
  pub fields : new ≡ record old { now = new.now }
  pub lists : identities_of new_tie.lists ≡ identities_of old_tie.lists
  pub seat : SameSeat old_tie.seat new_tie.seat

-- one more entry, of this access
abbrev pub OneMoreEntry : List Entry → List Entry → Access → Type 0
OneMoreEntry old new a = (ticket : ℕ) × (new ≡ old ++ record { ticket = ticket; access = a } ∷ [])

-- a read returns a value, and a write that it was done; the trace has one more entry, or the run was stopped and it has none
abbrev pub AccessReturns : ℕ → Option ℤ → List Entry → List Entry → Reply → Type 0
AccessReturns cell None old new (Value v) = OneMoreEntry old new (read_access cell v)
AccessReturns cell (Some w) old new (Value v) = ⊥
AccessReturns cell None old new Done = ⊥
AccessReturns cell (Some w) old new Done = OneMoreEntry old new (write_access cell w)
AccessReturns cell write old new Stopped = new ≡ old
