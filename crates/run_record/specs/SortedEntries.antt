-- The merge of the logs of a run as one list: all entries, sorted by ticket, and at equal tickets those of the book first and then those of
-- the shards by number.
use Rattle.std.specs.Prelude.{◌≡◌, ◌↔◌, All, ℕ, suc, List, [], ◌∷◌, ◌++◌, map, Bool, ◌&&◌, ◌||◌, ◌==◌, nat_lt, if◌then◌else◌}
use Rattle.pipe_model.specs.declared.event.Event.{Event}
use Rattle.pipe_model.specs.declared.ticket.BookEntry.{BookEntry}
use Rattle.pipe_model.specs.declared.ticket.ShardEntry.{ShardEntry}
use Rattle.run_record.specs.MergedLogs.{AreMerged, BookRises, ShardRises}
use Rattle.pipe_model.specs.Runs.TicketLogs.{LogEntry, OfBook, OfShard, event_of, rank_of, ticket_of}

-- whether an entry comes before another
abbrev pub comes_before : LogEntry → LogEntry → Bool
comes_before x y = nat_lt (ticket_of x) (ticket_of y) || ((ticket_of x == ticket_of y) && nat_lt (rank_of x) (rank_of y))

-- the list with an entry in front of the first one that it comes before
abbrev pub with_entry : LogEntry → List LogEntry → List LogEntry
with_entry x [] = x ∷ []
with_entry x (y ∷ ys) = if comes_before x y then x ∷ y ∷ ys else y ∷ with_entry x ys

abbrev pub sorted_entries : List LogEntry → List LogEntry
sorted_entries [] = []
sorted_entries (x ∷ xs) = with_entry x (sorted_entries xs)

-- the entries of shards, of which the first has number k
abbrev pub entries_from : ℕ → List (List ShardEntry) → List LogEntry
entries_from k [] = []
entries_from k (shard ∷ shards) = map (OfShard k) shard ++ entries_from (suc k) shards

-- the entries of all logs, in order
abbrev pub merged_entries : List BookEntry → List (List ShardEntry) → List LogEntry
merged_entries book shards = sorted_entries (map OfBook book ++ entries_from 0 shards)

-- their events
abbrev pub merged_events : List BookEntry → List (List ShardEntry) → List Event
merged_events book shards = map event_of (merged_entries book shards)

-- if tickets rise in the book and in each shard, these are the events of the merge, and no others are
abbrev pub MergesAreSorted : Type 0
MergesAreSorted =
    (book : List BookEntry) (shards : List (List ShardEntry)) (events : List Event) → BookRises book → All ShardRises shards
    → AreMerged book shards events ↔ (events ≡ merged_events book shards)
