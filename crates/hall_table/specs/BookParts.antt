-- The parts of a hall's rule that speak of the book and of the seats of running instances.
use Rattle.std.specs.Prelude.{◌≡◌, ℕ, List, ◌<◌, ◌≤◌, map, length, Option, Some}
use Rattle.pipe_model.specs.declared.marks.Marks.{Marks}
use Rattle.pipe_model.specs.declared.node.NodeId.{NodeId}
use Rattle.pipe_model.specs.declared.ticket.BookEntry.{BookEntry}
use Rattle.pipe_model.specs.declared.ticket.Entry.{Entry}
use Rattle.pipe_model.specs.Orders.OrderMarks.{instance_marks}
use Rattle.pipe_model.specs.Orders.Starts.{starts_of}
use Rattle.pipe_model.specs.Races.DeterminacyRaces.{Among}
use Rattle.pipe_model.specs.Runs.Allowed.{IsRunning}
use Rattle.pipe_model.specs.Runs.ControlRun.{ControlRun}
use Rattle.pipe_model.specs.Runs.RunLogs.{columns_after}
use Rattle.pipe_model.specs.Runs.TicketLogs.{TimedAction, TicketsRise}
use Rattle.pipe_model.specs.Runs.TicketOrder.{start_ticket_of, end_ticket_of}
use Rattle.pipe_frame.specs.RunningTokens.{left_joined}
use Rattle.pipe_frame.specs.TokenFields.{TokenFields}
use Rattle.frame_book.specs.BookStates.{BookState, HasRisingTickets, IsOut, Spent, Kept, events_of, item_or, made, replies_at, state_of}
use Rattle.frame_book.specs.BookStates.{timed_access}
use Rattle.frame_book.specs.GivenTokens.{IsOutOf}
use Rattle.hall_table.specs.SeatViews.{InstanceData}

-- the marks of an instance that has started
abbrev pub marks_in : BookState → NodeId → Marks
marks_in b x = instance_marks (columns_after (events_of b.log)) (starts_of (events_of b.log)) x.iteration x.index

-- the last index of the left column that precedes it
abbrev pub joined_in : BookState → NodeId → ℕ
joined_in b x = left_joined (columns_after (events_of b.log)) x.iteration x.index

-- instance k of iteration i has started, at a ticket of at most `now`
pub record StartedBy (log : List BookEntry) (i k now : ℕ) : Type 0 where
  pub ticket : ℕ
  pub is : start_ticket_of log i k ≡ Some ticket
  pub before : ticket ≤ now

-- what the seat of a running instance knows is right
pub record KnowsInstance (b : BookState) (d : InstanceData) : Type 0 where
  pub out : IsOutOf b d.fields
  pub replies : d.replies ≡ replies_at b d.fields.iteration
  pub parts : length d.replies ≡ d.fields.index
  pub started : StartedBy b.log d.fields.iteration d.fields.index d.fields.now
  pub rise : TicketsRise (map timed_access d.entries)
  pub from_start : (e : Entry) → Among e d.entries → (s : ℕ) × (start_ticket_of b.log d.fields.iteration d.fields.index ≡ Some s)
      × (s < e.ticket)
  pub to_now : (e : Entry) → Among e d.entries → e.ticket ≤ d.fields.now

-- the tickets of a trace of the book rise from the start of its instance to its end
pub record IsTimelyTrace (b : BookState) (i k : ℕ) : Type 0 where
  pub rise : TicketsRise (made b.traces i k)
  pub from_start : (x : TimedAction) → Among x (made b.traces i k) → (s : ℕ) × (start_ticket_of b.log i k ≡ Some s) × (s < x.ticket)
  pub to_end : (x : TimedAction) (end : ℕ) → Among x (made b.traces i k) → end_ticket_of b.log i k ≡ Some end → x.ticket < end

-- a kept token of a running instance has at least the ticket of its start
abbrev pub IsTimelyToken : BookState → ℕ → Type 0
IsTimelyToken b i = (f : TokenFields) → item_or Spent b.tokens i ≡ Kept f → IsRunning (state_of b) i → StartedBy b.log i f.index f.now

-- the book, and the seats of running instances by iteration
pub record HasSeats (b : BookState) (seats : ℕ → Option InstanceData) : Type 0 where
  pub control : ControlRun b.limit (events_of b.log) (state_of b)
  pub rises : HasRisingTickets b.log
  pub tokens : length b.tokens ≡ length (state_of b).frames
  pub traces : length b.traces ≡ length (state_of b).frames
  pub run : (i : ℕ) (d : InstanceData) → seats i ≡ Some d → (d.fields.iteration ≡ i) × KnowsInstance b d
  pub out : (i : ℕ) → IsOut b i → (d : InstanceData) × (seats i ≡ Some d)
  pub timely : (i k : ℕ) → IsTimelyTrace b i k
  pub kept : (i : ℕ) → IsTimelyToken b i
