-- The rule of a hall. Lock 0 is that of the book, and lock k + 1 that of shard k. Lock i is the word at index `place i`, and what it
-- protects is in slot i. Nobody uses the other words.
use Rattle.std.specs.Prelude.{◌≡◌, ◌≢◌, ℕ, zero, suc, List, [], ◌*◌, ◌<◌, length, Option, Some, None, slice_index}
use mathlib.Core.Option.{none, some}
use lib.ListN.{get_elem?}
use Rattle.atomic_table.specs.Table.{State}
use Rattle.pipe_model.specs.Races.DeterminacyRaces.{Among}
use Rattle.pipe_frame.specs.HallViews.{BeginsWith}
use Rattle.pipe_frame.specs.TokenCounts.{no_tokens}
use Rattle.frame_book.specs.BookStates.{BookState, events_of}
use Rattle.hall_table.specs.SeatViews.{HallConstants, HallStart, InstanceData, SeatView, SlotValue, TheBook, TheShard}
use Rattle.hall_shards.specs.ShardValues.{ShardValue}
use Rattle.hall_table.specs.SeatViews.{constants_of}
use Rattle.hall_table.specs.BookParts.{HasSeats}
use Rattle.hall_table.specs.ShardParts.{HasShard}
use Rattle.hall_table.specs.declared.view.View.{View}
use Rattle.hall_table.specs.declared.slot.Slot.{Slot}
use Rattle.hall_table.specs.declared.slot.Slot.TheVariants as slots

-- how many locks there are, and slots
abbrev pub lock_count : ℕ
lock_count = 17

-- how many words the words of two locks are apart
abbrev pub stride : ℕ
stride = 8

-- the index of the word of lock i
abbrev pub place : ℕ → ℕ
place i = stride * i

-- how many words there are
abbrev pub width : ℕ
width = place lock_count

abbrev pub view_of : SeatView → View
view_of v = record { it = v }

-- the view of the first seat
abbrev pub first_view : HallStart → View
first_view start = view_of (record { constants = Some start.constants; seen = []; met = []; run = None; held = []; tokens = no_tokens })

-- a value in its slot
abbrev pub slot_of : {M : Type 0} → SlotValue → Slot M
slot_of (TheBook b) = slots.Book b
slot_of (TheShard x) = slots.Shard x

-- the values that the locks protect
abbrev pub value_at : BookState → (ℕ → ShardValue) → ℕ → SlotValue
value_at b shard zero = TheBook b
value_at b shard (suc k) = TheShard (shard k)

-- lock i is free and its value is at home, or the lock is taken and the value is out
pub record IsPlaced {M : Type 0} (words : List ℕ) (homes : List (mathlib.Core.Option.Option (Slot M))) (i : ℕ)
    (x : SlotValue) : Type 0 where
  pub home : slice_index words (place i) ≡ 0 → get_elem? homes i ≡ some (some (slot_of x))
  pub away : slice_index words (place i) ≢ 0 → (slice_index words (place i) ≡ 1) × (get_elem? homes i ≡ some none)

-- what seat j knows is right. `number` has the number of the seat of each iteration's running instance, and `holder` the number of the
-- seat that has taken a lock
pub record IsRightView (words : List ℕ) (b : BookState) (shard : ℕ → ShardValue) (seats : ℕ → Option InstanceData) (number holder : ℕ → ℕ)
    (j : ℕ) (v : SeatView) : Type 0 where
  pub constants : (a : HallConstants) → v.constants ≡ Some a → a ≡ constants_of b
  pub seen : BeginsWith (events_of b.log) v.seen
  pub met : BeginsWith (events_of b.log) v.met
  pub run : (d : InstanceData) → v.run ≡ Some d → (seats d.fields.iteration ≡ Some d) × (number d.fields.iteration ≡ j)
  pub held : (i : ℕ) (x : SlotValue) → Among (i, x) v.held → (i < 17) × (holder i ≡ j) × (slice_index words (place i) ≡ 1)
      × (x ≡ value_at b shard i)

-- the locks and the seats of a table, around a book, shards and the data of the seats of running instances
pub record Board {M : Type 0} (s : State (Slot M) View) (b : BookState) (shard : ℕ → ShardValue)
    (seats : ℕ → Option InstanceData) : Type 0 where
  pub number : ℕ → ℕ
  pub holder : ℕ → ℕ
  pub words : length s.words ≡ width
  pub homes : length s.homes ≡ lock_count
  pub places : (i : ℕ) → i < 17 → IsPlaced s.words s.homes i (value_at b shard i)
  pub right : (j : ℕ) (v : View) → get_elem? s.views j ≡ some v → IsRightView s.words b shard seats number holder j v.it
  pub each_seat : (i : ℕ) (d : InstanceData) → seats i ≡ Some d → (v : View) × (get_elem? s.views (number i) ≡ some v) × (v.it.run ≡ Some d)

-- the rule, for a hall that was opened with these constants, after these accesses
pub record IsHall {M : Type 0} (start : HallStart) (s : State (Slot M) View) : Type 0 where
  pub book : BookState
  pub shard : ℕ → ShardValue
  pub seats : ℕ → Option InstanceData
  pub constants : constants_of book ≡ start.constants
  pub board : Board s book shard seats
  pub has_seats : HasSeats book seats
  pub has_shards : (k : ℕ) → k < 16 → HasShard start.before book seats k (shard k)
