-- Runs: states, events, which events are allowed, throttling, and logs.
pub mod State
pub mod Allowed
pub mod Run
pub mod Throttling
pub mod RunLogs
pub mod ControlRun
pub mod TicketLogs
pub mod StageCounters
pub mod StageEnds
pub mod WholeProgramRuns
pub mod NextEvents
pub mod Schedules
pub mod ControlParts
pub mod TicketOrder
