-- Laws of the order of tickets.
use Rattle.std.specs.Prelude.{◌≡◌, ◌<◌, ℕ, List, map, Some, AllPairs}
use Rattle.pipe_model.specs.declared.node.Node.{Node}
use Rattle.pipe_model.specs.declared.node.NodeId.{NodeId}
use Rattle.pipe_model.specs.Races.Columns.{AreColumns}
use Rattle.pipe_model.specs.Runs.ControlRun.{ControlRun}
use Rattle.pipe_model.specs.Races.Dag.{Precedes}
use Rattle.pipe_model.specs.Runs.State.{State, own_columns}
use Rattle.pipe_model.specs.Runs.TicketLogs.{InTicketOrder, TimedAction}
use Rattle.pipe_model.specs.declared.ticket.BookEntry.{BookEntry}
use Rattle.pipe_model.specs.declared.ticket.ShardEntry.{ShardEntry}
use Rattle.pipe_model.specs.Runs.TicketOrder.{InstancesAreOrdered, StartsAfterEnd, TicketsAreInOrder, TicketsRiseInLogs, start_ticket_of}

-- tickets that are in order have the order that the merge of the logs requires
abbrev pub OrderedTicketsMerge : Type 0
OrderedTicketsMerge =
    (columns : List (List Node)) (book : List BookEntry) (shards : ℕ → List ShardEntry) (made : ℕ → ℕ → List TimedAction)
    → TicketsAreInOrder columns book shards made → InTicketOrder book made

-- an instance starts after the end of each instance that precedes it in the dag, also along redundant edges
abbrev pub PrecedingInstancesEndFirst : Type 0
PrecedingInstancesEndFirst =
    (columns : List (List Node)) (book : List BookEntry) (shards : ℕ → List ShardEntry) (made : ℕ → ℕ → List TimedAction)
    → AreColumns columns → TicketsAreInOrder columns book shards made
    → (x y : NodeId) (start : ℕ) → Precedes columns x y → start_ticket_of book y.iteration y.index ≡ Some start
    → StartsAfterEnd book x.iteration x.index y.iteration y.index

-- if the events of a book are a run of the control part and its tickets rise, its instances are ordered
abbrev pub BooksOrderInstances : Type 0
BooksOrderInstances =
    (limit : ℕ) (book : List BookEntry) (c : State) → ControlRun limit (map (λ b. b.event) book) c
    → AllPairs (λ (a : BookEntry) (b : BookEntry). a.ticket < b.ticket) book
    → InstancesAreOrdered (own_columns c) book

-- for such a book, tickets are in order if they rise in each log
abbrev pub RisingTicketsAreInOrder : Type 0
RisingTicketsAreInOrder =
    (limit : ℕ) (book : List BookEntry) (shards : ℕ → List ShardEntry) (made : ℕ → ℕ → List TimedAction) (c : State)
    → ControlRun limit (map (λ b. b.event) book) c
    → TicketsRiseInLogs book shards made
    → TicketsAreInOrder (own_columns c) book shards made
