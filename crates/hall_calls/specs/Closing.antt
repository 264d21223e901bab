-- The end of a run.
use Rattle.std.specs.Prelude.{◌≡◌, ℕ, List, [], ◌∷◌, ◌+◌, ◌*◌, ◌<◌, true, slice_index_or}
use Rattle.pipe_model.specs.declared.event.Event.TheVariants.{Stop}
use Rattle.pipe_model.specs.declared.ticket.BookEntry.{BookEntry}
use Rattle.pipe_model.specs.declared.ticket.ShardEntry.{ShardEntry}
use Rattle.pipe_model.specs.Races.DeterminacyRaces.{Among}
use Rattle.pipe_model.specs.Orders.Starts.{starts_of}
use Rattle.pipe_model.specs.Orders.TwoOrders.{down_place, right_place}
use Rattle.pipe_model.specs.Runs.RunLogs.{columns_after}
use Rattle.access_history.specs.KeptInstances.{IsHistoryAfter}
use Rattle.frame_book.specs.BookStates.{BookState, events_of, last_ticket, state_of, with_last_raised}
use Rattle.hall_table.specs.Logs.{noted_to}
use Rattle.hall_table.specs.SeatViews.{HallStart}
use Rattle.hall_shards.specs.ShardValues.{ShardValue, history_at}
use Rattle.pipe_model.specs.declared.event.Event.{Event}
use Rattle.hall_table.specs.Steps.{ClosedHall}
use Rattle.hall_shards.specs.Learning.{HasSeenAll}

-- a shard of nothing
abbrev pub no_shard : ShardValue
no_shard = record {
  number = 0;
  cells = record { shard = record { number = 0; shards = 1; cells = 0; output_limit = 0 }; values = []; output = [] };
  histories = [];
  log = [];
  last = 0;
  lists = record { down = []; right = []; down_log = []; right_log = [] };
}

-- shard k of a list of all shards
abbrev pub shard_in : List ShardValue → ℕ → ShardValue
shard_in xs k = slice_index_or xs k no_shard

-- the last event is a stop
abbrev pub LastStops : List BookEntry → Type 0
LastStops [] = ⊥
LastStops (b ∷ []) = b.event ≡ Stop
LastStops (b ∷ (c ∷ bs)) = LastStops (c ∷ bs)

-- the book with a higher ticket of its last event
abbrev pub raised : BookState → ℕ → BookState
raised b least = record b { log = with_last_raised b.log least }

-- each history has noted the accesses to its cell, by the orders of the two lists
abbrev pub HasHistories : BookState → ℕ → ShardValue → Type 0
HasHistories b k x = (slot : ℕ) → IsHistoryAfter (down_place (starts_of (events_of b.log)))
    (right_place (columns_after (events_of b.log)) (starts_of (events_of b.log)))
    (noted_to (k + 16 * slot) x.log) (history_at x.histories slot)

-- the ticket of a stop is greater than the tickets of all accesses
abbrev pub StopIsLast : BookState → (ℕ → ShardValue) → Type 0
StopIsLast b shard = (state_of b).stopped ≡ true → (k : ℕ) → k < 16 → (e : ShardEntry) → Among e (shard k).log
    → e.ticket < last_ticket b.log

-- what is known of a hall after its end: the facts of its rule, and each history has noted the accesses to its cell
pub record EndedHall (start : HallStart) (seen : List Event) (b : BookState) (shard : ℕ → ShardValue) : Type 0 where
  pub closed : ClosedHall start seen b shard
  pub all : (k : ℕ) → k < 16 → HasSeenAll b (shard k).lists
  pub histories : (k : ℕ) → k < 16 → HasHistories b k (shard k)
