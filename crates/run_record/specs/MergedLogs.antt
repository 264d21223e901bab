-- The merge of the logs of a run: its entries by ticket, at equal tickets the book first and then the shards by number.
use Rattle.std.specs.Prelude.{◌≡◌, ℕ, ◌<◌, List, [], map, AllPairs, slice_index_or}
use Rattle.pipe_model.specs.declared.event.Event.{Event}
use Rattle.pipe_model.specs.declared.ticket.BookEntry.{BookEntry}
use Rattle.pipe_model.specs.declared.ticket.ShardEntry.{ShardEntry}
use Rattle.pipe_model.specs.Runs.TicketLogs.{LogEntry, IsMerge, event_of}

-- the log of shard k; empty if there is no such shard
abbrev pub shard_at : List (List ShardEntry) → ℕ → List ShardEntry
shard_at shards k = slice_index_or shards k []

-- tickets rise in the log
abbrev pub BookRises : List BookEntry → Type 0
BookRises book = AllPairs (λ (a : BookEntry) (b : BookEntry). a.ticket < b.ticket) book

abbrev pub ShardRises : List ShardEntry → Type 0
ShardRises shard = AllPairs (λ (a : ShardEntry) (b : ShardEntry). a.ticket < b.ticket) shard

-- the events of the merge of the book and its shards
pub record AreMerged (book : List BookEntry) (shards : List (List ShardEntry)) (events : List Event) : Type 0 where
  pub entries : List LogEntry
  pub merge : IsMerge book (shard_at shards) entries
  pub are : events ≡ map event_of entries
