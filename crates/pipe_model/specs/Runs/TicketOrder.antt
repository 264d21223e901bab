-- The order of tickets: within the book, each shard and each instance, and from the end of a parent in the dag to the start of its child.
use Rattle.std.specs.Prelude.{◌≡◌, ◌<◌, ◌+◌, ℕ, suc, List, Option, Some, AllPairs}
use Rattle.pipe_model.specs.declared.node.Node.{Node}
use Rattle.pipe_model.specs.Orders.LeftParent.{left_parent}
use Rattle.pipe_model.specs.Races.DeterminacyRaces.{Among}
use Rattle.pipe_model.specs.Runs.TicketLogs.{TimedAction, TicketsRise, start_tickets, end_tickets, ticket_at}
use Rattle.pipe_model.specs.declared.ticket.BookEntry.{BookEntry}
use Rattle.pipe_model.specs.declared.ticket.ShardEntry.{ShardEntry}

-- the ticket at which instance k of iteration i started, if it has started
abbrev pub start_ticket_of : List BookEntry → ℕ → ℕ → Option ℕ
start_ticket_of book i k = ticket_at (start_tickets i book) k

-- the ticket at which it ended, if it has ended
abbrev pub end_ticket_of : List BookEntry → ℕ → ℕ → Option ℕ
end_ticket_of book i k = ticket_at (end_tickets i book) k

-- instance k of iteration i started after instance j of iteration h had ended
pub record StartsAfterEnd (book : List BookEntry) (h j i k : ℕ) : Type 0 where
  pub start : ℕ
  pub end : ℕ
  pub starts : start_ticket_of book i k ≡ Some start
  pub ends : end_ticket_of book h j ≡ Some end
  pub later : end < start

-- tickets rise in the book, in each shard, and in each instance from its start over its accesses to its end
pub record TicketsRiseInLogs (book : List BookEntry) (shards : ℕ → List ShardEntry) (made : ℕ → ℕ → List TimedAction) : Type 0 where
  pub in_book : AllPairs (λ (a : BookEntry) (b : BookEntry). a.ticket < b.ticket) book
  pub in_shards : (k : ℕ) → AllPairs (λ (a : ShardEntry) (b : ShardEntry). a.ticket < b.ticket) (shards k)
  pub in_instance : (i k : ℕ) → TicketsRise (made i k)
  pub from_start : (i k : ℕ) (x : TimedAction) → Among x (made i k) → (start : ℕ) × (start_ticket_of book i k ≡ Some start)
      × (start < x.ticket)
  pub to_end : (i k : ℕ) (x : TimedAction) (end : ℕ) → Among x (made i k) → end_ticket_of book i k ≡ Some end → x.ticket < end

-- each instance ends after its start, and starts after its parents have ended: the instance above it, and its left parent
pub record InstancesAreOrdered (columns : List (List Node)) (book : List BookEntry) : Type 0 where
  pub from_start_to_end : (i k end : ℕ) → end_ticket_of book i k ≡ Some end → (start : ℕ) × (start_ticket_of book i k ≡ Some start)
      × (start < end)
  pub up : (i k start : ℕ) → start_ticket_of book i (k + 1) ≡ Some start → StartsAfterEnd book i k i (k + 1)
  pub left : (i j k start : ℕ) → left_parent columns (suc i) k ≡ Some j → start_ticket_of book (suc i) k ≡ Some start
      → StartsAfterEnd book i j (suc i) k

-- all of a run's tickets are in order. Logs need only keep the first half: the second follows from the events of the book.
pub record TicketsAreInOrder (columns : List (List Node)) (book : List BookEntry) (shards : ℕ → List ShardEntry)
    (made : ℕ → ℕ → List TimedAction) : Type 0 where
  pub logs : TicketsRiseInLogs book shards made
  pub instances : InstancesAreOrdered columns book
