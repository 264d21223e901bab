pub mod AllowedEvents
pub mod BookOrder
pub mod Candidates
pub mod ControlOutlines
pub mod CountedStarts
pub mod HistoryFolds
pub mod PlayedSchedules
pub mod TicketPaths
