-- What contracts see of halls and of the seats of workers.
use Rattle.std.specs.Prelude.{◌≡◌, ℕ, pos, List, [], ◌∷◌, length, Option, Some, None}
use Rattle.atomic_table.specs.Seated.{TableId}
use Rattle.atomic_table.specs.Table.{Me}
use Rattle.pipe_model.specs.declared.access.Access.{Access}
use Rattle.pipe_model.specs.declared.event.Event.{Event}
use Rattle.pipe_model.specs.Language.SyntaxTree.{SyntaxTree, Number, Empty, tree_of}
use Rattle.pipe_model.specs.Runs.ControlRun.{ControlRun}
use Rattle.pipe_model.specs.Runs.RunLogs.{state_after}
use Rattle.pipe_frame.specs.HallViews.{BeginsWith}
use Rattle.pipe_frame.specs.SeatedTokens.{seated_entries, seated_replies}
use Rattle.pipe_frame.specs.Ties.{HallName, Tie}
use Rattle.pipe_frame.specs.TokenCounts.{TokenCounts}
use Rattle.pipe_frame.specs.TokenFields.{TokenFields}
use Rattle.frame_book.specs.BookStates.{BookState, events_of, replies_at, state_of}
use Rattle.frame_book.specs.GivenTokens.{IsOutOf}
use Rattle.hall_table.specs.SeatViews.{HallConstants, InstanceData, TheBook, constants_of}
use Rattle.hall_table.specs.Steps.{ViewAndSlots, one_returned}
use Rattle.hall_table.specs.declared.view.View.{View}
use Rattle.hall_table.specs.declared.slot.Slot.TheVariants as slots

-- the identity of a table, as numbers
abbrev pub numbers_of : TableId → List ℕ
numbers_of z = z.words ∷ z.slots ∷ z.views_name ∷ z.atom ∷ z.block ∷ z.offset ∷ z.slot_names

abbrev pub no_tree : SyntaxTree
no_tree = record {
  limits = record { iterations = pos 0; stages = pos 0; steps = pos 0; emits = pos 0 };
  cells = [];
  init = Empty;
  test = Number (pos 0);
  body = Empty;
  last = Empty;
}

-- the name of a hall, by its table and its constants
abbrev pub name_of : TableId → Option HallConstants → HallName
name_of z None = record { hall = numbers_of z; tree = no_tree; input = []; limit = 0; lists = record { down = []; right = [] } }
name_of z (Some a) = record { hall = numbers_of z; tree = tree_of a.program; input = a.input; limit = a.limit; lists = a.lists }

-- the name of a seat's hall
abbrev pub hall_of : {S : Type 0} → TableId → Me S View → HallName
hall_of z m = name_of z m.0.it.constants

-- which hall it is, and its constants
pub record HallId : Type 0 where
  pub table : TableId
  pub constants : Option HallConstants

abbrev pub hall_name : HallId → HallName
hall_name h = name_of h.table h.constants

-- two seats, or a seat and a hall, are of the same hall
abbrev pub IsSameHall : HallId → HallId → Type 0
IsSameHall g h = (hall_name g).hall ≡ (hall_name h).hall

-- a hall, and the accesses before the run
pub record HallState : Type 0 where
  pub hall : HallId
  pub before : List Access

-- a worker's seat between two calls: its hall, the events of the book that it has seen, and how many tokens it has given out and taken back
pub record WorkerSeat : Type 0 where
  pub hall : HallId
  pub seen : List Event
  pub tokens : TokenCounts

-- the seat holds nothing, knows the constants of the hall, and what it has seen is the beginning of a run
pub record IsIdle {S : Type 0} (m : Me S View) : Type 0 where
  pub constants : HallConstants
  pub knows : m.0.it.constants ≡ Some constants
  pub control : ControlRun constants.limit m.0.it.seen (state_after m.0.it.seen)
  pub run : m.0.it.run ≡ None
  pub held : m.0.it.held ≡ []
  pub slots : m.1 ≡ []

-- the seat of a worker after a call: it is idle, and knows the same hall
pub record StaysIdle {S : Type 0} (m n : Me S View) : Type 0 where
  pub idle : IsIdle n
  pub constants : n.0.it.constants ≡ m.0.it.constants

-- the seat has taken the book when it was b, in its slot it is c now, and the seat belongs to the running instance `back`, if there is one
pub record HoldsBook {M : Type 0} (m : ViewAndSlots M) (b c : BookState) (back : Option InstanceData) : Type 0 where
  pub slots : m.1 ≡ (0, slots.Book c) ∷ []
  pub held : m.0.it.held ≡ (0, TheBook b) ∷ []
  pub run : m.0.it.run ≡ back

-- one token has come back with the seat of this instance
abbrev pub counts_with : Option InstanceData → TokenCounts → TokenCounts
counts_with None c = c
counts_with (Some d) c = one_returned c

-- an idle seat has taken the book; `back` is the instance whose seat it has taken in before that, if there is one
pub record HasTaken {M : Type 0} (m n : ViewAndSlots M) (b : BookState) (back : Option InstanceData) : Type 0 where
  pub holds : HoldsBook n b b back
  pub knew : m.0.it.constants ≡ Some (constants_of b)
  pub knows : n.0.it.constants ≡ Some (constants_of b)
  pub seen : BeginsWith (events_of b.log) m.0.it.seen
  pub counts : n.0.it.tokens ≡ counts_with back m.0.it.tokens
  pub control : ControlRun b.limit (events_of b.log) (state_of b)
  pub tokens : length b.tokens ≡ length (state_of b).frames
  pub traces : length b.traces ≡ length (state_of b).frames

-- this is known of the running instance whose token has these fields, and whose payload has this tie
pub record IsDataOf (b : BookState) (f : TokenFields) (t : Tie) (d : InstanceData) : Type 0 where
  pub out : IsOutOf b f
  pub fields : d.fields ≡ f
  pub replies : seated_replies t ≡ replies_at b f.iteration
  pub entries : d.entries ≡ seated_entries t
