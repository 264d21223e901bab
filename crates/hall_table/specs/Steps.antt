-- What each step on the table of a hall does to the seat that makes it: of the step, the seat before, the number found and the seat after.
use Rattle.std.specs.Prelude.{◌≡◌, ◌≢◌, ℕ, suc, List, [], ◌∷◌, ◌++◌, ◌+◌, ◌<◌, length, drop, Option, Some, None}
use mathlib.Core.Option.{some}
use Rattle.atomic_table.specs.Table.{Me, Step}
use Rattle.pipe_model.specs.declared.access.Access.{Access}
use Rattle.pipe_model.specs.declared.event.Event.{Event}
use Rattle.pipe_model.specs.declared.ticket.ShardEntry.{ShardEntry}
use Rattle.pipe_model.specs.Races.DeterminacyRaces.{Among}
use Rattle.pipe_model.specs.Runs.ControlRun.{ControlRun}
use Rattle.pipe_model.specs.Runs.RunLogs.{state_after}
use Rattle.pipe_frame.specs.HallViews.{BeginsWith}
use Rattle.pipe_frame.specs.TokenCounts.{TokenCounts, no_tokens}
use Rattle.pipe_frame.specs.TokenFields.{TokenFields, fields_of}
use Rattle.pipe_frame.specs.declared.token.FrameToken.{FrameToken}
use Rattle.frame_book.specs.BookStates.{BookState, events_of, replies_at, state_of}
use Rattle.hall_table.specs.SeatViews.{HallConstants, HallStart, InstanceData, SeatView, SlotValue, TheBook, TheShard}
use Rattle.hall_shards.specs.ShardValues.{ShardValue}
use Rattle.hall_table.specs.SeatViews.{constants_of}
use Rattle.hall_table.specs.Logs.{entry_of}
use Rattle.hall_table.specs.BookParts.{HasSeats, KnowsInstance}
use Rattle.hall_table.specs.ShardParts.{HasShard}
use Rattle.hall_table.specs.HallRule.{place, slot_of, view_of}
use Rattle.hall_table.specs.declared.view.View.{View}
use Rattle.hall_table.specs.declared.slot.Slot.{Slot}
use Rattle.hall_table.specs.declared.slot.Slot.TheVariants as slots

abbrev pub ViewAndSlots : Type 0 → Type 0
ViewAndSlots M = Me (Slot M) View

-- ---- the value of a lock is taken

-- who has taken the book knows the constants of the hall
abbrev pub constants_after : SeatView → SlotValue → Option HallConstants
constants_after v (TheBook b) = Some (constants_of b)
constants_after v (TheShard x) = v.constants

abbrev pub holding : SeatView → ℕ → SlotValue → SeatView
holding v i x = record v { constants = constants_after v x; held = (i, x) ∷ v.held }

-- the seat has lock i, whose value lies in its slot
abbrev pub having : {M : Type 0} → ViewAndSlots M → ℕ → SlotValue → ViewAndSlots M
having m i x = (view_of (holding m.0.it i x), (i, slot_of x) ∷ m.1)

-- a shard beside a book and seats of the time when it was taken
pub record ShardSnapshot (v : SeatView) (i : ℕ) (x : ShardValue) : Type 0 where
  pub before : List Access
  pub book : BookState
  pub seats : ℕ → Option InstanceData
  pub number : ℕ
  pub slot : i ≡ suc number
  pub has_seats : HasSeats book seats
  pub has_shard : HasShard before book seats number x
  pub constants : (a : HallConstants) → v.constants ≡ Some a → a ≡ constants_of book
  pub run : (d : InstanceData) → v.run ≡ Some d → seats d.fields.iteration ≡ Some d

-- the book of the time when it was taken
pub record BookSnapshot (v : SeatView) (i : ℕ) (b : BookState) : Type 0 where
  pub slot : i ≡ 0
  pub seen : BeginsWith (events_of b.log) v.seen
  pub constants : (a : HallConstants) → v.constants ≡ Some a → a ≡ constants_of b
  pub control : ControlRun b.limit (events_of b.log) (state_of b)
  pub run : (d : InstanceData) → v.run ≡ Some d → KnowsInstance b d
  pub tokens : length b.tokens ≡ length (state_of b).frames
  pub traces : length b.traces ≡ length (state_of b).frames

abbrev pub IsSnapshot : SeatView → ℕ → SlotValue → Type 0
IsSnapshot v i (TheBook b) = BookSnapshot v i b
IsSnapshot v i (TheShard x) = ShardSnapshot v i x

-- the value of lock i was taken, or the lock was taken already
abbrev pub takes_value : {M : Type 0} → ℕ → ViewAndSlots M → ℕ → ViewAndSlots M → Type 0
takes_value {M} i m r n = (r ≡ 0 → (x : SlotValue) × (n ≡ having m i x)
    × IsSnapshot m.0.it i x) × (r ≢ 0 → n ≡ m)

abbrev pub takes_slot : {M : Type 0} → Step (Slot M) → ViewAndSlots M → ℕ → ViewAndSlots M → Type 0
takes_slot {M} st m r n = (i : ℕ) → st.word ≡ place i → takes_value i m r n

-- ---- the book is given back

-- the data of an instance whose token the book has just given out
abbrev pub new_instance : BookState → TokenFields → InstanceData
new_instance b f = record { fields = f; replies = replies_at b f.iteration; entries = [] }

-- the seat afterwards has seen all events
abbrev pub after_book : SeatView → BookState → Option InstanceData → SeatView
after_book v b run = record v { seen = events_of b.log; run = run; held = [] }

abbrev pub returns_book : {M : Type 0} → Step (Slot M) → ViewAndSlots M → ℕ → ViewAndSlots M → Type 0
returns_book {M} st m r n = (b : BookState) → m.1 ≡ (0, slots.Book b) ∷ [] → n ≡ (view_of (after_book m.0.it b None), [])

-- the same beside a token that is given out; the seat stands for its instance until it is split
abbrev pub returns_book_and_token : {M : Type 0} → Step (Slot M) → ViewAndSlots M → ℕ → ViewAndSlots M → Type 0
returns_book_and_token {M} st m r n = (b : BookState) (t : FrameToken M) → m.1 ≡ (0, slots.Book b) ∷ [] → st.said ≡ some (slots.Token t)
    → n ≡ (view_of (after_book m.0.it b (Some (new_instance b (fields_of t)))), [])

-- ---- a shard is given back

-- the instance has made these accesses more
abbrev pub after_entries : InstanceData → List ShardEntry → InstanceData
after_entries d [] = d
after_entries d (e ∷ es) = record d { fields = record d.fields { now = e.ticket }; entries = d.entries ++ entry_of e ∷ [] }

abbrev pub after_log : Option InstanceData → List ShardEntry → List ShardEntry → Option InstanceData
after_log None old new = None
after_log (Some d) old new = Some (after_entries d (drop (length old) new))

abbrev pub after_shard : SeatView → ShardValue → ShardValue → SeatView
after_shard v x y = record v { run = after_log v.run x.log y.log; held = [] }

abbrev pub returns_shard : {M : Type 0} → Step (Slot M) → ViewAndSlots M → ℕ → ViewAndSlots M → Type 0
returns_shard {M} st m r n = (i : ℕ) (x y : ShardValue) → m.0.it.held ≡ (i, TheShard x) ∷ [] → m.1 ≡ (i, slots.Shard y) ∷ []
    → n ≡ (view_of (after_shard m.0.it x y), [])

-- ---- splits and joins

-- one token more was given, or taken back
abbrev pub one_given : TokenCounts → TokenCounts
one_given c = record c { given = c.given + 1 }

abbrev pub one_returned : TokenCounts → TokenCounts
one_returned c = record c { returned = c.returned + 1 }

-- the new seat stands for the instance, whose token is given out with it
abbrev pub without_run : SeatView → SeatView
without_run v = record v { run = None; tokens = one_given v.tokens }

abbrev pub run_seat : SeatView → SeatView
run_seat v = record v { seen = []; met = []; held = []; tokens = no_tokens }

-- a seat of a further worker
abbrev pub worker_seat : SeatView → SeatView
worker_seat v = record v { run = None; held = []; tokens = no_tokens }

-- the seat takes in the seat of an instance, whose token has come back
abbrev pub with_run : SeatView → SeatView → SeatView
with_run v w = record v { run = w.run; tokens = one_returned v.tokens }

abbrev pub longer : List Event → List Event → List Event
longer xs ys = xs ++ drop (length xs) ys

abbrev pub both_counts : TokenCounts → TokenCounts → TokenCounts
both_counts c d = record { given = c.given + d.given; returned = c.returned + d.returned }

-- of two workers, the second one's seat is taken in
abbrev pub joined : SeatView → SeatView → SeatView
joined v w = record v { met = w.seen; tokens = both_counts v.tokens w.tokens }

-- the seat has then seen what the other had
abbrev pub with_longer : SeatView → SeatView
with_longer v = record v { seen = longer v.seen v.met; met = [] }

-- what it has seen begins with both, and is the beginning of a run
abbrev pub meets : {M : Type 0} → Step (Slot M) → ViewAndSlots M → ℕ → ViewAndSlots M → Type 0
meets {M} st m r n = (n ≡ (view_of (with_longer m.0.it), m.1)) × BeginsWith n.0.it.seen m.0.it.seen × BeginsWith n.0.it.seen m.0.it.met
    × ((a : HallConstants) → m.0.it.constants ≡ Some a → ControlRun a.limit n.0.it.seen (state_after n.0.it.seen))

-- ---- the end

-- the seat has taken everything
pub record HoldsAll (held : List (ℕ × SlotValue)) (b : BookState) (shard : ℕ → ShardValue) : Type 0 where
  pub book : Among (0, TheBook b) held
  pub shards : (k : ℕ) → k < 16 → Among (suc k, TheShard (shard k)) held

-- what is known of a hall that nobody uses any more
pub record ClosedHall (start : HallStart) (seen_ : List Event) (b : BookState) (shard : ℕ → ShardValue) : Type 0 where
  pub seats : ℕ → Option InstanceData
  pub constants : constants_of b ≡ start.constants
  pub has_seats : HasSeats b seats
  pub has_shards : (k : ℕ) → k < 16 → HasShard start.before b seats k (shard k)
  pub seen : BeginsWith (events_of b.log) seen_
