pub mod EntryLists
pub mod HallEnds
pub mod EndedLogs
pub mod EndedReports
pub mod EndedPrograms
