-- What contracts see of a book, as plain data, and what follows from it.
use Rattle.std.specs.Prelude.{◌≡◌, ℕ, suc, ℤ, List, [], ◌∷◌, ◌++◌, map, max, slice_index_or, AllPairs, ◌<◌}
use Rattle.pipe_model.specs.declared.event.Event.{Event}
use Rattle.pipe_model.specs.declared.ticket.BookEntry.{BookEntry}
use Rattle.pipe_model.specs.declared.ticket.Entry.{Entry}
use Rattle.pipe_model.specs.declared.tree.Program.{Program}
use Rattle.pipe_model.specs.Language.Programs.{pipeline_of}
use Rattle.pipe_model.specs.Language.SyntaxTree.{tree_of}
use Rattle.pipe_model.specs.Pipelines.Behaviour.{Action, Accessed, Behaviour}
use Rattle.pipe_model.specs.Pipelines.Pipeline.{Pipeline}
use Rattle.pipe_model.specs.Runs.RunLogs.{state_after}
use Rattle.pipe_model.specs.Runs.State.{State}
use Rattle.pipe_model.specs.Runs.TicketLogs.{TimedAction, laid_traces, end_actions}
use Rattle.pipe_frame.specs.Replies.{after_instances, replies_of}
use Rattle.pipe_frame.specs.Ties.{ListIdentities}
use Rattle.pipe_frame.specs.TokenFields.{TokenFields}

-- where the token of an iteration is: out of the book, kept by it, or gone since the iteration has ended
pub data TokenState : Type 0 where
  Out : TokenState
  Kept : TokenFields → TokenState
  Spent : TokenState

-- a book: its program, input and throttling limit, the identities of its order lists, its log, for each iteration the traces of the
-- instances that have ended and where its token is, and how often a left counter was read. All else follows from the log.
pub record BookState : Type 0 where
  pub program : Program
  pub input : List ℤ
  pub limit : ℕ
  pub lists : ListIdentities
  pub log : List BookEntry
  pub traces : List (List (List Entry))
  pub tokens : List TokenState
  pub reads : ℕ

-- ---- the log

abbrev pub events_of : List BookEntry → List Event
events_of log = map (λ b. b.event) log

-- the state of the control part after the events of the log
abbrev pub state_of : BookState → State
state_of v = state_after (events_of v.log)

-- the last ticket, or 0 if there is none
abbrev pub last_ticket : List BookEntry → ℕ
last_ticket [] = 0
last_ticket (b ∷ []) = b.ticket
last_ticket (b ∷ (c ∷ bs)) = last_ticket (c ∷ bs)

-- the events with the tickets t + 1, t + 2 and so on
abbrev pub stamped : ℕ → List Event → List BookEntry
stamped t [] = []
stamped t (e ∷ es) = record { ticket = suc t; event = e } ∷ stamped (suc t) es

-- the log with more events at its end: their tickets are the next ones after the last ticket and after `now`
abbrev pub with_events : List BookEntry → ℕ → List Event → List BookEntry
with_events log now es = log ++ stamped (max (last_ticket log) now) es

-- the log with the ticket of its last entry raised to at least `least`
abbrev pub with_last_raised : List BookEntry → ℕ → List BookEntry
with_last_raised [] least = []
with_last_raised (b ∷ []) least = record b { ticket = max b.ticket least } ∷ []
with_last_raised (b ∷ (c ∷ bs)) least = b ∷ with_last_raised (c ∷ bs) least

abbrev pub HasRisingTickets : List BookEntry → Type 0
HasRisingTickets log = AllPairs (λ (a : BookEntry) (b : BookEntry). a.ticket < b.ticket) log

-- ---- traces

-- item i, or d if there is none
abbrev pub item_or : {X : Type 0} → X → List X → ℕ → X
item_or d xs i = slice_index_or xs i d

-- the replies that the iteration had, one list for each instance that has ended
abbrev pub replies_at : BookState → ℕ → List (List ℤ)
replies_at v i = map replies_of (item_or [] v.traces i)

abbrev pub timed_access : Entry → TimedAction
timed_access e = record { ticket = e.ticket; action = Accessed e.access }

-- the accesses of instance k of iteration i with their tickets, once it has ended
abbrev pub made : List (List (List Entry)) → ℕ → ℕ → List TimedAction
made traces i k = map timed_access (item_or [] (item_or [] traces i) k)

-- what iteration i has done, by its traces and the log
abbrev pub actions_at : BookState → ℕ → List Action
actions_at v i = map (λ a. a.action) (laid_traces (made v.traces i) 0 (end_actions i v.log))

abbrev pub pipeline_in : BookState → Pipeline
pipeline_in v = pipeline_of (tree_of v.program) v.input

-- what iteration i has left to do, from the start of its running instance on
abbrev pub left_of : BookState → ℕ → Behaviour
left_of v i = after_instances ((pipeline_in v).behaviour i) (replies_at v i)

-- ---- tokens

abbrev pub IsOut : BookState → ℕ → Type 0
IsOut v i = item_or Spent v.tokens i ≡ Out
