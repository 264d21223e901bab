-- When the merge of logs by tickets is a run.
use Rattle.std.specs.Prelude.{List, ℕ, Some, ◌≡◌, ◌<◌, ℤ, map, ◌%◌, ◌∷◌, ◌++◌}
use Rattle.pipe_model.specs.Pipelines.Behaviour.{Staged, Ended, Accessed, Performs}
use Rattle.pipe_model.specs.Runs.ControlRun.{ControlRun}
use Rattle.pipe_model.specs.Pipelines.Pipeline.{Pipeline}
use Rattle.pipe_model.specs.Races.DeterminacyRaces.{Among}
use Rattle.pipe_model.specs.Runs.State.{State}
use Rattle.pipe_model.specs.Pipelines.Store.{HasReply}
use Rattle.pipe_model.specs.Runs.TicketLogs.{ticket_at, start_tickets, end_tickets, TimedAction, TicketsRise, LogEntry}
use Rattle.pipe_model.specs.declared.ticket.BookEntry.{BookEntry}
use Rattle.pipe_model.specs.declared.ticket.ShardEntry.{ShardEntry}
use Rattle.pipe_model.specs.Runs.TicketLogs.{IsMerge, event_of}
use Rattle.pipe_model.specs.declared.access.Access.{Access as Cell_access}
use Rattle.pipe_model.specs.declared.event.Event.TheVariants.{Advance, Finish, Stop}
use Rattle.run_laws.specs.LogLaws.{MakesRun}
use Rattle.run_laws.proofs.LogMerge.Entries.{timed, book_entry, shard_entry}

-- an entry of a shard is after the start of its instance and before its end
pub record IsWithinInstance (book : List BookEntry) (e : ShardEntry) : Type 0 where
  pub start : ℕ
  pub started : ticket_at (start_tickets e.node.iteration book) e.node.index ≡ Some start
  pub after : start < e.ticket
  pub before : (t : ℕ) → ticket_at (end_tickets e.node.iteration book) e.node.index ≡ Some t → e.ticket < t

-- the actions of the logs that are of iteration i
pub data IsActionOf (book : List BookEntry) (shards : ℕ → List ShardEntry) (i : ℕ) : TimedAction → Type 0 where
  StagedIn : {t : ℕ} {k : _} {n : ℤ} → Among (book_entry t (Advance i k n)) book
      → IsActionOf book shards i (timed t (Staged k n))
  EndedIn : {t : ℕ} {e : _} → Among (book_entry t (Finish i e)) book
      → IsActionOf book shards i (timed t (Ended e))
  AccessedIn : {t : ℕ} {index : ℕ} {a : Cell_access} (shard : ℕ)
      → Among (shard_entry t i index a) (shards shard)
      → IsActionOf book shards i (timed t (Accessed a))

-- the actions of an iteration with their tickets: all actions of the logs that are of it, in order
pub record IsTrace (p : Pipeline) (book : List BookEntry)
    (shards : ℕ → List ShardEntry) (i : ℕ) (trace : List TimedAction) : Type 0 where
  pub rises : TicketsRise trace
  pub performs : Performs (p.behaviour i) (map (λ x. x.action) trace)
  pub only : (x : TimedAction) → Among x trace → IsActionOf book shards i x
  pub all : (x : TimedAction) → IsActionOf book shards i x → Among x trace

-- the control part, the shards and the traces fit one another
pub record FitTogether (p : Pipeline) (limit width : ℕ) (book : List BookEntry)
    (shards : ℕ → List ShardEntry) (c : State) : Type 0 where
  pub control : ControlRun limit (map (λ b. b.event) book) c
  pub within : (k : ℕ) (e : ShardEntry) → Among e (shards k) → IsWithinInstance book e
  pub cells : (k : ℕ) (e : ShardEntry) → Among e (shards k) → e.access.cell.0 % width ≡ k
  pub stop_last : (t : ℕ) → Among (book_entry t Stop) book → (k : ℕ) (e : ShardEntry)
      → Among e (shards k) → e.ticket < t
  pub traces : (i : ℕ) → (trace : List TimedAction) × IsTrace p book shards i trace
  pub replies : (k : ℕ) (front rest : List ShardEntry) (e : ShardEntry) → shards k ≡ front ++ e ∷ rest
      → HasReply p.store (p.preamble ++ map (λ x. x.access) front) e.access

-- the merge of logs that fit together is a run
abbrev pub FittingMergeIsRun : Type 0
FittingMergeIsRun =
    (p : Pipeline) (limit width : ℕ) (book : List BookEntry)
    (shards : ℕ → List ShardEntry) (c : State) (merged : List LogEntry) → FitTogether p limit width book shards c
    → IsMerge book shards merged → MakesRun p limit (map event_of merged) c
