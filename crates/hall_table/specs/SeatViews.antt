-- What a seat of a hall knows, and what its slots hold, as plain data.
use Rattle.std.specs.Prelude.{ℕ, ℤ, List, [], Option, None}
use Rattle.pipe_model.specs.declared.tree.Program.{Program}
use Rattle.pipe_model.specs.declared.access.Access.{Access}
use Rattle.pipe_model.specs.declared.event.Event.{Event}
use Rattle.pipe_model.specs.declared.ticket.Entry.{Entry}
use Rattle.pipe_frame.specs.Ties.{ListIdentities}
use Rattle.pipe_frame.specs.TokenCounts.{TokenCounts, no_tokens}
use Rattle.pipe_frame.specs.TokenFields.{TokenFields}
use Rattle.frame_book.specs.BookStates.{BookState}
use Rattle.hall_shards.specs.ShardValues.{ShardValue}

-- what no call changes: the program, its input, the throttling limit, and the identities of the order lists
pub record HallConstants : Type 0 where
  pub program : Program
  pub input : List ℤ
  pub limit : ℕ
  pub lists : ListIdentities

abbrev pub constants_of : BookState → HallConstants
constants_of b = record { program = b.program; input = b.input; limit = b.limit; lists = b.lists }

-- what a hall was opened with: its constants, and the accesses before the run
pub record HallStart : Type 0 where
  pub constants : HallConstants
  pub before : List Access

abbrev pub start_of : BookState → List Access → HallStart
start_of b before = record { constants = constants_of b; before = before }

-- what the seat of a running instance knows: its token, the replies that its iteration had before it, and its accesses
pub record InstanceData : Type 0 where
  pub fields : TokenFields
  pub replies : List (List ℤ)
  pub entries : List Entry

-- what a slot holds
pub data SlotValue : Type 0 where
  TheBook : BookState → SlotValue
  TheShard : ShardValue → SlotValue

-- what a seat knows: the constants of its hall, the events of the book that it has seen, those that a seat which it has taken in had
-- seen, the running instance whose seat it is, the locks that it has taken, each with what it protected then, and how many tokens it
-- has given out and taken back
pub record SeatView : Type 0 where
  pub constants : Option HallConstants
  pub seen : List Event
  pub met : List Event
  pub run : Option InstanceData
  pub held : List (ℕ × SlotValue)
  pub tokens : TokenCounts

-- a seat that knows nothing
abbrev pub nothing_known : SeatView
nothing_known = record { constants = None; seen = []; met = []; run = None; held = []; tokens = no_tokens }
