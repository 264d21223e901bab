-- Accesses by the seats of running instances.
use Rattle.std.specs.Prelude.{◌≡◌, ℕ, ℤ, List, [], ◌∷◌, ◌++◌, Option, Some, None, ◌%◌, ◌^◌, ◌<◌, ◌≤◌}
use Rattle.atomic_table.specs.Table.{Me}
use Rattle.pipe_model.specs.declared.ticket.Entry.{Entry}
use Rattle.pipe_frame.specs.Ties.{InstanceSeat, Tie}
use Rattle.pipe_frame.specs.TokenFields.{TokenFields}
use Rattle.hall_table.specs.SeatViews.{HallConstants, InstanceData, SeatView}
use Rattle.hall_shards.specs.Accesses.{IsAsked, IsMade, next_ticket}
use Rattle.hall_table.specs.declared.view.View.{View}
use Rattle.pipe_model.specs.declared.access.Access.{Access}
use Rattle.pipe_model.specs.Races.Columns.{at}
use Rattle.hall_shards.specs.ShardValues.{ShardValue}

-- the seat belongs to the instance of a token with these fields, and holds nothing
pub record RunsAs {S : Type 0} (m : Me S View) (f : TokenFields) : Type 0 where
  pub constants : HallConstants
  pub knows : m.0.it.constants ≡ Some constants
  pub run_data : InstanceData
  pub run_is : m.0.it.run ≡ Some run_data
  pub fields : run_data.fields ≡ f
  pub held : m.0.it.held ≡ []
  pub slots : m.1 ≡ []

-- the instance has made one more access
abbrev pub run_more : Option InstanceData → Entry → Option InstanceData
run_more None e = None
run_more (Some d) e = Some (record d { fields = record d.fields { now = e.ticket }; entries = d.entries ++ e ∷ [] })

abbrev pub seat_more : Option InstanceSeat → Entry → Option InstanceSeat
seat_more None e = None
seat_more (Some s) e = Some (record s { fields = record s.fields { now = e.ticket }; entries = s.entries ++ e ∷ [] })

-- the seat after an access, or if none was made
abbrev pub ran : SeatView → Option Entry → SeatView
ran v None = v
ran v (Some e) = record v { run = run_more v.run e }

-- the ticket of a token
abbrev pub now_after : ℕ → Option Entry → ℕ
now_after now None = now
now_after now (Some e) = e.ticket

abbrev pub seat_done : Option InstanceSeat → Option Entry → Option InstanceSeat
seat_done s None = s
seat_done s (Some e) = seat_more s e

abbrev pub tie_after : Tie → Option Entry → Tie
tie_after t o = record t { seat = seat_done t.seat o }

-- the trace has the access that was asked for, if one was made
abbrev pub TraceAfter : ℕ → Option ℤ → List Entry → List Entry → Option Entry → Type 0
TraceAfter cell write old new None = new ≡ old
TraceAfter cell write old new (Some e) = IsAsked cell write e.access × (new ≡ old ++ e ∷ [])

-- the instance of a seat has made an access to shard k
pub record MadeBy (d : InstanceData) (k : ℕ) (x y : ShardValue) : Type 0 where
  pub ticket : ℕ
  pub access : Access
  pub made : IsMade (record { node = at d.fields.iteration d.fields.index; marks = d.fields.marks }) d.fields.joined ticket access x y
  pub own : access.cell.0 % 16 ≡ k
  pub there : access.cell.0 < x.cells.shard.cells
  pub next : ticket ≡ next_ticket x.last d.fields.now
  pub bound : ticket ≤ 2 ^ 62
