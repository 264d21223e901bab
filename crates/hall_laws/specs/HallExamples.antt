-- Worked examples, which show that the premises of the laws can be met: a finished hall of two iterations that overlap, with three shards,
-- and a hall that was stopped.
use Rattle.std.specs.Prelude.{◌≡◌, ℕ, pos, true, List, [], ◌∷◌}
use Rattle.access_history.specs.declared.history.History.{History}
use Rattle.pipe_model.specs.declared.access.Access.{Access}
use Rattle.pipe_model.specs.declared.column.ColumnEnd.TheVariants.{Closed, End}
use Rattle.pipe_model.specs.declared.event.Event.{Event}
use Rattle.pipe_model.specs.declared.event.Event.TheVariants as events
use Rattle.pipe_model.specs.declared.event.RunLog.{RunLog}
use Rattle.pipe_model.specs.declared.node.Kind.TheVariants.{Wait}
use Rattle.pipe_model.specs.declared.node.NodeId.{NodeId}
use Rattle.pipe_model.specs.declared.ticket.BookEntry.{BookEntry}
use Rattle.pipe_model.specs.declared.ticket.Entry.{Entry}
use Rattle.pipe_model.specs.declared.ticket.ShardEntry.{ShardEntry}
use Rattle.pipe_model.specs.declared.tree.Program.{Program}
use Rattle.pipe_model.specs.Language.CheckingRules.{BreaksNoRule}
use Rattle.pipe_model.specs.Language.SyntaxTree.{tree_of}
use Rattle.pipe_model.specs.Pipelines.Behaviour.{read_access, write_access}
use Rattle.pipe_model.specs.Races.Columns.{at}
use Rattle.pipe_model.specs.Runs.Run.{IsFinished}
use Rattle.pipe_model.specs.Runs.TicketLogs.{OfBook, OfShard}
use Rattle.frame_book.specs.BookStates.{BookState, Kept, Spent, state_of}
use Rattle.pipe_frame.specs.Ties.{ListIdentities}
use Rattle.pipe_frame.specs.TokenFields.{TokenFields}
use Rattle.program_laws.specs.ScheduleExamples.{emitting_once}
use Rattle.run_record.specs.OwnColumns.{made_columns}
use Rattle.hall_laws.specs.HallPrograms.{IsMergedHall}
use Rattle.hall_laws.specs.HallReports.{AreFound, HaveNotedEntries}
use Rattle.hall_laws.specs.HallRuns.{IsOfInstance}

abbrev pub event_at : ℕ → Event → BookEntry
event_at t e = record { ticket = t; event = e }

abbrev pub entry_at : ℕ → Access → Entry
entry_at t a = record { ticket = t; access = a }

abbrev pub entry_by : ℕ → NodeId → Access → ShardEntry
entry_by t x a = record { ticket = t; node = x; access = a }

-- ---- two iterations

-- iteration 1 begins while iteration 0 is in stage 1; at tickets 6, 7 and 8 two entries of different logs have the same ticket
abbrev pub example_log : List BookEntry
example_log =
    event_at 1 (events.Begin 0)
    ∷ event_at 4 (events.Advance 0 Wait (pos 1))
    ∷ event_at 5 (events.Enter 0)
    ∷ event_at 6 (events.Begin 1)
    ∷ event_at 8 (events.Finish 1 Closed)
    ∷ event_at 9 (events.Finish 0 End)
    ∷ []

abbrev pub example_traces : List (List (List Entry))
example_traces =
    ((entry_at 2 (read_access 2 (pos 0)) ∷ entry_at 3 (write_access 2 (pos 1)) ∷ [])
    ∷ (entry_at 6 (read_access 2 (pos 1)) ∷ entry_at 7 (read_access 1 (pos 0)) ∷ entry_at 8 (write_access 1 (pos 1)) ∷ [])
    ∷ [])
    ∷ ((entry_at 7 (read_access 2 (pos 1)) ∷ []) ∷ [])
    ∷ []

-- a book of a program, after these events
abbrev pub example_book : Program → ListIdentities → BookState
example_book p lists = record {
  program = p;
  input = [];
  limit = 2;
  lists = lists;
  log = example_log;
  traces = example_traces;
  tokens = Spent ∷ Spent ∷ [];
  reads = 0;
}

-- cell 1 is the output, and cell 2 is `n`
abbrev pub example_shards : List (List ShardEntry)
example_shards =
    []
    ∷ (entry_by 7 (at 0 1) (read_access 1 (pos 0)) ∷ entry_by 8 (at 0 1) (write_access 1 (pos 1)) ∷ [])
    ∷ (entry_by 2 (at 0 0) (read_access 2 (pos 0)) ∷ entry_by 3 (at 0 0) (write_access 2 (pos 1)) ∷ entry_by 6 (at 0 1)
    (read_access 2 (pos 1))
    ∷ entry_by 7 (at 1 0) (read_access 2 (pos 1)) ∷ [])
    ∷ []

-- at ticket 7 the lower shard comes first, and at tickets 6 and 8 the book
abbrev pub example_events : List Event
example_events =
    events.Begin 0
    ∷ events.Access 0 (read_access 2 (pos 0))
    ∷ events.Access 0 (write_access 2 (pos 1))
    ∷ events.Advance 0 Wait (pos 1)
    ∷ events.Enter 0
    ∷ events.Begin 1
    ∷ events.Access 0 (read_access 2 (pos 1))
    ∷ events.Access 0 (read_access 1 (pos 0))
    ∷ events.Access 1 (read_access 2 (pos 1))
    ∷ events.Finish 1 Closed
    ∷ events.Access 0 (write_access 1 (pos 1))
    ∷ events.Finish 0 End
    ∷ []

-- a run log of these events
abbrev pub example_run_log : List Event → RunLog
example_run_log es = record { columns = made_columns es; events = es }

-- the program breaks no rule, the hall is finished, its logs merge into these events, and histories that have noted its entries report no
-- race. At ticket 6 an instance starts and one of another iteration reads; at ticket 8 the one ends and the other writes.
pub record IsExampleHall (v : BookState) : Type 0 where
  pub rules : BreaksNoRule (tree_of v.program)
  pub merged : IsMergedHall v example_shards (example_run_log example_events)
  pub finished : IsFinished (state_of v)
  pub histories : (history : ℕ → History) × HaveNotedEntries v example_shards history × AreFound history []
  pub starts : IsOfInstance v.log (at 1 0) (OfBook (event_at 6 (events.Begin 1)))
  pub reads : IsOfInstance v.log (at 0 1) (OfShard 2 (entry_by 6 (at 0 1) (read_access 2 (pos 1))))
  pub ends : IsOfInstance v.log (at 1 0) (OfBook (event_at 8 (events.Finish 1 Closed)))
  pub writes : IsOfInstance v.log (at 0 1) (OfShard 1 (entry_by 8 (at 0 1) (write_access 1 (pos 1))))

-- this is so for each program with this tree
abbrev pub ExampleHallIsMerged : Type 0
ExampleHallIsMerged = (p : Program) (lists : ListIdentities) → tree_of p ≡ emitting_once → IsExampleHall (example_book p lists)

-- ---- a hall that was stopped

-- the second access was made after `Stop`, whose ticket was then raised to 4
abbrev pub stopped_log : List BookEntry
stopped_log = event_at 1 (events.Begin 0) ∷ event_at 4 events.Stop ∷ []

-- the book keeps the token of the instance that was stopped, and its trace
abbrev pub stopped_book : Program → ListIdentities → TokenFields → BookState
stopped_book p lists token = record {
  program = p;
  input = [];
  limit = 2;
  lists = lists;
  log = stopped_log;
  traces = ((entry_at 2 (read_access 2 (pos 0)) ∷ entry_at 3 (write_access 2 (pos 1)) ∷ []) ∷ []) ∷ [];
  tokens = Kept token ∷ [];
  reads = 0;
}

abbrev pub stopped_shards : List (List ShardEntry)
stopped_shards =
    [] ∷ [] ∷ (entry_by 2 (at 0 0) (read_access 2 (pos 0)) ∷ entry_by 3 (at 0 0) (write_access 2 (pos 1)) ∷ []) ∷ []

abbrev pub stopped_events : List Event
stopped_events = events.Begin 0 ∷ events.Access 0 (read_access 2 (pos 0)) ∷ events.Access 0 (write_access 2 (pos 1)) ∷ events.Stop ∷ []

pub record IsStoppedHall (v : BookState) : Type 0 where
  pub merged : IsMergedHall v stopped_shards (example_run_log stopped_events)
  pub stopped : (state_of v).stopped ≡ true

abbrev pub StoppedHallIsMerged : Type 0
StoppedHallIsMerged = (p : Program) (lists : ListIdentities) (token : TokenFields) → tree_of p ≡ emitting_once
    → IsStoppedHall (stopped_book p lists token)
