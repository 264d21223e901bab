-- What a call of the book changes, as far as the rule of the hall is concerned: an iteration, whose seat was taken in or is given out.
use Rattle.std.specs.Prelude.{◌≡◌, ◌≢◌, ℕ, List, [], ◌++◌, length, Option, Some, None}
use Rattle.pipe_model.specs.declared.node.NodeId.{NodeId}
use Rattle.pipe_model.specs.declared.ticket.BookEntry.{BookEntry}
use Rattle.pipe_model.specs.Orders.Starts.{IsStarted, starts_of}
use Rattle.pipe_model.specs.Runs.Allowed.{IsRunning}
use Rattle.pipe_model.specs.Runs.ControlRun.{ControlRun}
use Rattle.pipe_model.specs.Runs.TicketOrder.{end_ticket_of}
use Rattle.pipe_frame.specs.RunningTokens.{IsTokenOf}
use Rattle.pipe_frame.specs.TokenFields.{TokenFields}
use Rattle.frame_book.specs.BookStates.{BookState, HasRisingTickets, IsOut, Spent, events_of, item_or, state_of}
use Rattle.hall_table.specs.SeatViews.{InstanceData, constants_of}
use Rattle.hall_table.specs.Logs.{trace_by}
use Rattle.hall_table.specs.BookParts.{HasSeats, IsTimelyToken, KnowsInstance, IsTimelyTrace, joined_in, marks_in}

-- the log has grown by these entries, and the other iterations are as they were
pub record LeavesOthers (b c : BookState) (i : ℕ) : Type 0 where
  pub constants : constants_of c ≡ constants_of b
  pub added : List BookEntry
  pub log : c.log ≡ b.log ++ added
  pub tokens : (j : ℕ) → j ≢ i → item_or Spent c.tokens j ≡ item_or Spent b.tokens j
  pub traces : (j : ℕ) → j ≢ i → item_or [] c.traces j ≡ item_or [] b.traces j
  pub stays : (t : TokenFields) → t.iteration ≢ i → IsTokenOf (events_of b.log) t → IsTokenOf (events_of c.log) t
  pub runs : (j : ℕ) → j ≢ i → IsRunning (state_of c) j → IsRunning (state_of b) j
  pub ends : (j k end : ℕ) → j ≢ i → end_ticket_of c.log j k ≡ Some end → end_ticket_of b.log j k ≡ Some end
  pub starts : (x : NodeId) → IsStarted (starts_of (events_of b.log)) x → IsStarted (starts_of (events_of c.log)) x
  pub marks : (x : NodeId) → IsStarted (starts_of (events_of b.log)) x → marks_in c x ≡ marks_in b x
  pub joins : (x : NodeId) → IsStarted (starts_of (events_of b.log)) x → joined_in c x ≡ joined_in b x

-- what is known of iteration i afterwards
pub record IsIterationAfter (b : BookState) (back : Option InstanceData) (c : BookState) (given : Option InstanceData)
    (i : ℕ) : Type 0 where
  pub run : (d : InstanceData) → given ≡ Some d → (d.fields.iteration ≡ i) × KnowsInstance c d
  pub out : IsOut c i → (d : InstanceData) × (given ≡ Some d)
  pub timely : (k : ℕ) → IsTimelyTrace c i k
  pub kept : IsTimelyToken c i
  pub traces : (n : ℕ) → trace_by c given i n ≡ trace_by b back i n
  pub control : ControlRun c.limit (events_of c.log) (state_of c)
  pub rises : HasRisingTickets c.log
  pub tokens : length c.tokens ≡ length (state_of c).frames
  pub counts : length c.traces ≡ length (state_of c).frames

-- a call on the book: the seat of an iteration had `back`, and has `given` afterwards
pub record IsBookCall (b : BookState) (back : Option InstanceData) (c : BookState) (given : Option InstanceData) : Type 0 where
  pub iteration : ℕ
  pub moves : LeavesOthers b c iteration
  pub own : (d : InstanceData) → back ≡ Some d → d.fields.iteration ≡ iteration
  pub free : (seats : ℕ → Option InstanceData) → HasSeats b seats → back ≡ None → IsOut b iteration → ⊥
  pub here : (seats : ℕ → Option InstanceData) → HasSeats b seats → seats iteration ≡ back → IsIterationAfter b back c given iteration
