-- How far the code has merged the logs of a run, and which entry is next.
use Rattle.std.specs.Prelude.{◌≡◌, ℕ, ◌+◌, ◌-◌, ◌<◌, List, [], ◌∷◌, length, drop, Bool, true, false, nat_lt}
use Rattle.std.specs.Prelude.{slice_get, slice_index, slice_index_or, Option, Some, None, option_map}
use Rattle.pipe_model.specs.declared.event.Event.{Event}
use Rattle.pipe_model.specs.declared.ticket.BookEntry.{BookEntry}
use Rattle.pipe_model.specs.declared.ticket.ShardEntry.{ShardEntry}
use Rattle.pipe_model.specs.Runs.TicketLogs.{LogEntry, IsMerge, event_of}
use Rattle.run_record.specs.MergedLogs.{shard_at}
use Rattle.run_record.specs.declared.cursors.Cursors.{Cursors}
use Rattle.run_record.specs.declared.cursors.NextLog.{NextLog}
use Rattle.run_record.specs.declared.cursors.NextLog.TheVariants.{Book, Shard}

-- ---- the log with the next entry

-- an entry with the first ticket comes before one with the second; where no entry is left, it comes before none
abbrev pub is_before : Option ℕ → Option ℕ → Bool
is_before None other = false
is_before (Some t) None = true
is_before (Some t) (Some u) = nat_lt t u

-- the ticket of the entry at index n, if there is one
abbrev pub book_ticket : List BookEntry → ℕ → Option ℕ
book_ticket book n = option_map (λ (b : BookEntry). b.ticket) (slice_get book n)

abbrev pub shard_ticket : List ShardEntry → ℕ → Option ℕ
shard_ticket shard n = option_map (λ (e : ShardEntry). e.ticket) (slice_get shard n)

-- the next ticket of shard k, if an entry is left
abbrev pub ticket_at : List (Option ℕ) → ℕ → Option ℕ
ticket_at tickets k = slice_index_or tickets k None

-- the next entry of shard k comes before those of the book and of the other of the first n shards
pub record IsFirstShard (book : Option ℕ) (tickets : List (Option ℕ)) (n k : ℕ) : Type 0 where
  pub within : k < n
  pub of_book : is_before (ticket_at tickets k) book ≡ true
  pub of_lower : (j : ℕ) → j < k → is_before (ticket_at tickets k) (ticket_at tickets j) ≡ true
  pub of_each : (j : ℕ) → j < n → is_before (ticket_at tickets j) (ticket_at tickets k) ≡ false

-- of the book and the first n shards, this log has the next entry, if one is left
abbrev pub IsFirst : Option ℕ → List (Option ℕ) → ℕ → NextLog → Type 0
IsFirst book tickets n Book = (j : ℕ) → j < n → is_before (ticket_at tickets j) book ≡ false
IsFirst book tickets n (Shard k) = IsFirstShard book tickets n k

-- the next ticket of a log
abbrev pub next_ticket : Option ℕ → List (Option ℕ) → NextLog → Option ℕ
next_ticket book tickets Book = book
next_ticket book tickets (Shard k) = ticket_at tickets k

-- ---- cursors

-- there is a cursor for each shard, its ticket is that of the entry at the cursor, and the first of the shards is known
pub record AreCursors (shards : List (List ShardEntry)) (c : Cursors) : Type 0 where
  pub cursors : length c.shards.items ≡ length shards
  pub tickets : length c.tickets.items ≡ length shards
  pub are : (k : ℕ) → ticket_at c.tickets.items k ≡ shard_ticket (shard_at shards k) (slice_index c.shards.items k)
  pub first : IsFirst None c.tickets.items (length c.tickets.items) c.first

-- no entry is merged yet
pub record AreStarts (c : Cursors) : Type 0 where
  pub book : c.book ≡ 0
  pub shards : (k : ℕ) → slice_index c.shards.items k ≡ 0

-- the entries of shard k that are left
abbrev pub rest_of_shard : List (List ShardEntry) → List ℕ → ℕ → List ShardEntry
rest_of_shard shards cursors k = drop (slice_index cursors k) (shard_at shards k)

-- the entries are a merge of what is left of the logs
abbrev pub MergesRest : List BookEntry → List (List ShardEntry) → Cursors → List LogEntry → Type 0
MergesRest book shards c entries = IsMerge (drop c.book book) (rest_of_shard shards c.shards.items) entries

-- a merge of what is left after an entry with this event is one of what was left before, with this entry at its front
abbrev pub IsNext : List BookEntry → List (List ShardEntry) → Cursors → Cursors → Event → Type 0
IsNext book shards old new event =
    (entries : List LogEntry) → MergesRest book shards new entries
    → (x : LogEntry) × (event ≡ event_of x) × MergesRest book shards old (x ∷ entries)

-- how many entries of shards are left
abbrev pub left_in_shards : List (List ShardEntry) → List ℕ → ℕ
left_in_shards [] cursors = 0
left_in_shards (s ∷ ss) [] = 0
left_in_shards (s ∷ ss) (n ∷ ns) = (length s - n) + left_in_shards ss ns

-- how many entries are left
abbrev pub entries_left : List BookEntry → List (List ShardEntry) → Cursors → ℕ
entries_left book shards c = (length book - c.book) + left_in_shards shards c.shards.items
