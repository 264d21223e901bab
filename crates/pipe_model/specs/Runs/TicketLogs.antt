-- Logs with tickets: a book of the events that are not accesses, and shards of the accesses, each in its own order. They
-- are merged by ticket. A closed run has these logs; their properties are enough for the merge to be a run.
use Rattle.std.specs.Prelude.{◌≡◌, ℕ, zero, suc, List, [], ◌∷◌, ◌++◌, Bool, true, false, ◌+◌, ◌<◌, map, ◌⊎◌, Option, Some, None, ◌==◌, ◌%◌}
use Rattle.pipe_model.specs.declared.access.Access.{Access as Cell_access}
use Rattle.pipe_model.specs.declared.event.Event.{Event}
use Rattle.pipe_model.specs.declared.event.Event.TheVariants.{Begin, Advance, Enter, Finish, Stop, Access}
use Rattle.pipe_model.specs.declared.ticket.BookEntry.{BookEntry}
use Rattle.pipe_model.specs.declared.ticket.ShardEntry.{ShardEntry}
use Rattle.pipe_model.specs.Pipelines.Behaviour.{Action, Accessed, Staged, Ended, Performs}
use Rattle.pipe_model.specs.Pipelines.Pipeline.{Pipeline}
use Rattle.pipe_model.specs.Pipelines.Store.{HasReply}
use Rattle.pipe_model.specs.Races.DeterminacyRaces.{Among}
use Rattle.pipe_model.specs.Runs.State.{State}
use Rattle.pipe_model.specs.Runs.ControlRun.{ControlRun}

-- an action with its ticket
pub record TimedAction : Type 0 where
  pub ticket : ℕ
  pub action : Action

-- an entry of the merge: of the book, or of shard k
pub data LogEntry : Type 0 where
  OfBook : BookEntry → LogEntry
  OfShard : ℕ → ShardEntry → LogEntry

abbrev pub ticket_of : LogEntry → ℕ
ticket_of (OfBook b) = b.ticket
ticket_of (OfShard k e) = e.ticket

-- the rank of an entry among those with its ticket: the book first, then the shards by number
abbrev pub rank_of : LogEntry → ℕ
rank_of (OfBook b) = 0
rank_of (OfShard k e) = suc k

abbrev pub event_of : LogEntry → Event
event_of (OfBook b) = b.event
event_of (OfShard k e) = Access e.node.iteration e.access

-- by ticket, and at equal tickets by rank
abbrev pub ComesBefore : LogEntry → LogEntry → Type 0
ComesBefore x y = (ticket_of x < ticket_of y) ⊎ ((ticket_of x ≡ ticket_of y) × (rank_of x < rank_of y))

-- each entry comes before all after it
abbrev pub InOrder : List LogEntry → Type 0
InOrder [] = Unit {0}
InOrder (x ∷ xs) = ((y : LogEntry) → Among y xs → ComesBefore x y) × InOrder xs

-- the entries of the book in a merge
abbrev pub book_in : List LogEntry → List BookEntry
book_in [] = []
book_in (OfBook b ∷ xs) = b ∷ book_in xs
book_in (OfShard k e ∷ xs) = book_in xs

-- the list with one more entry at its front, if the condition is true
abbrev pub if_shard : Bool → ShardEntry → List ShardEntry → List ShardEntry
if_shard true e es = e ∷ es
if_shard false e es = es

-- the entries of shard k in a merge
abbrev pub shard_in : ℕ → List LogEntry → List ShardEntry
shard_in k [] = []
shard_in k (OfBook b ∷ xs) = shard_in k xs
shard_in k (OfShard j e ∷ xs) = if_shard (j == k) e (shard_in k xs)

-- the list is in order, and has the entries of `book` and of each of `shards`, in their order
pub record IsMerge (book : List BookEntry) (shards : ℕ → List ShardEntry) (merged : List LogEntry) : Type 0 where
  pub order : InOrder merged
  pub book_is : book_in merged ≡ book
  pub shard_is : (k : ℕ) → shard_in k merged ≡ shards k

-- the ticket, if the condition is true
abbrev pub if_ticket : Bool → ℕ → List ℕ
if_ticket true t = t ∷ []
if_ticket false t = []

-- the ticket of an event, if it starts an instance of iteration i
abbrev pub start_ticket : ℕ → Event → ℕ → List ℕ
start_ticket i (Begin j) t = if_ticket (j == i) t
start_ticket i (Enter j) t = if_ticket (j == i) t
start_ticket i (Access j a) t = []
start_ticket i (Advance j k n) t = []
start_ticket i (Finish j e) t = []
start_ticket i Stop t = []

-- the ticket of an event, if it ends an instance of iteration i
abbrev pub end_ticket : ℕ → Event → ℕ → List ℕ
end_ticket i (Begin j) t = []
end_ticket i (Enter j) t = []
end_ticket i (Access j a) t = []
end_ticket i (Advance j k n) t = if_ticket (j == i) t
end_ticket i (Finish j e) t = if_ticket (j == i) t
end_ticket i Stop t = []

-- the tickets at which the instances of iteration i start
abbrev pub start_tickets : ℕ → List BookEntry → List ℕ
start_tickets i [] = []
start_tickets i (b ∷ bs) = start_ticket i b.event b.ticket ++ start_tickets i bs

-- the tickets at which the instances of iteration i end
abbrev pub end_tickets : ℕ → List BookEntry → List ℕ
end_tickets i [] = []
end_tickets i (b ∷ bs) = end_ticket i b.event b.ticket ++ end_tickets i bs

-- the ticket at index n
abbrev pub ticket_at : List ℕ → ℕ → Option ℕ
ticket_at [] n = None
ticket_at (t ∷ ts) zero = Some t
ticket_at (t ∷ ts) (suc n) = ticket_at ts n

abbrev pub TicketsRise : List TimedAction → Type 0
TicketsRise [] = Unit {0}
TicketsRise (x ∷ xs) = ((y : TimedAction) → Among y xs → x.ticket < y.ticket) × TicketsRise xs

-- the action with its ticket, if the condition is true
abbrev pub if_end : Bool → ℕ → Action → List TimedAction
if_end true t x = record { ticket = t; action = x } ∷ []
if_end false t x = []

-- the action of an event, with its ticket, if it ends an instance of iteration i
abbrev pub end_action : ℕ → Event → ℕ → List TimedAction
end_action i (Begin j) t = []
end_action i (Enter j) t = []
end_action i (Access j a) t = []
end_action i (Advance j k n) t = if_end (j == i) t (Staged k n)
end_action i (Finish j e) t = if_end (j == i) t (Ended e)
end_action i Stop t = []

-- the actions that end the instances of iteration i
abbrev pub end_actions : ℕ → List BookEntry → List TimedAction
end_actions i [] = []
end_actions i (b ∷ bs) = end_action i b.event b.ticket ++ end_actions i bs

-- the traces of the instances from number k on, each followed by its end
abbrev pub laid_traces : (ℕ → List TimedAction) → ℕ → List TimedAction → List TimedAction
laid_traces made k [] = made k
laid_traces made k (e ∷ ends) = made k ++ e ∷ laid_traces made (k + 1) ends

-- tickets rise within each instance, from its start over its accesses to its end, and from an end to the next start
pub record InTicketOrder (book : List BookEntry) (made : ℕ → ℕ → List TimedAction) : Type 0 where
  pub rise : (i k : ℕ) → TicketsRise (made i k)
  pub after_start : (i k : ℕ) (x : TimedAction) → Among x (made i k) → (s : ℕ) × (ticket_at (start_tickets i book) k ≡ Some s)
      × (s < x.ticket)
  pub before_end : (i k : ℕ) (x : TimedAction) (t : ℕ) → Among x (made i k) → ticket_at (end_tickets i book) k ≡ Some t → x.ticket < t
  pub start_end : (i k t : ℕ) → ticket_at (end_tickets i book) k ≡ Some t → (s : ℕ) × (ticket_at (start_tickets i book) k ≡ Some s)
      × (s < t)
  pub down : (i k t s : ℕ) → ticket_at (end_tickets i book) k ≡ Some t → ticket_at (start_tickets i book) (k + 1) ≡ Some s → t < s

-- the properties of the logs of a closed run; `made i k` are the accesses of instance k of iteration i with their tickets,
-- and the accesses to a cell are in the shard of its number modulo `width`
pub record ClosedLogs (p : Pipeline) (limit width : ℕ) (book : List BookEntry) (shards : ℕ → List ShardEntry)
    (made : ℕ → ℕ → List TimedAction)
    (c : State) : Type 0 where
  pub control : ControlRun limit (map (λ b. b.event) book) c
  pub order : InTicketOrder book made
  pub stop_last : (t : ℕ) → Among (record { ticket = t; event = Stop }) book → (k : ℕ) (e : ShardEntry) → Among e (shards k) → e.ticket < t
  pub cells : (k : ℕ) (e : ShardEntry) → Among e (shards k) → e.access.cell.0 % width ≡ k
  pub replies : (k : ℕ) (front rest : List ShardEntry) (e : ShardEntry) → shards k ≡ front ++ e ∷ rest
      → HasReply p.store (p.preamble ++ map (λ x. x.access) front) e.access
  pub in_trace : (k : ℕ) (e : ShardEntry) → Among e (shards k)
      → Among (record { ticket = e.ticket; action = Accessed e.access }) (made e.node.iteration e.node.index)
  pub of_trace : (i k : ℕ) (x : TimedAction) → Among x (made i k)
      → (a : Cell_access) × (x.action ≡ Accessed a) × Among (record
      { ticket = x.ticket; node = record { iteration = i; index = k }; access = a }) (shards (a.cell.0 % width))
  pub program : (i : ℕ) → Performs (p.behaviour i) (map (λ x. x.action) (laid_traces (made i) 0 (end_actions i book)))
