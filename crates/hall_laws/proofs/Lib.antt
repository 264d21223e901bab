pub mod TraceEntries
pub mod HallLogs
pub mod OwnAccesses
pub mod HallRuns
pub mod EntryInstances
pub mod EqualTickets
pub mod RaisedStops
pub mod ShardStates
pub mod JoinedLists
pub mod ShardRaces
pub mod SlotRaces
pub mod FoundRaces
pub mod HallOrders
pub mod HallPrograms
mod TicketLists
mod ExampleHistories
mod FinishedExample
mod StoppedExample
