pub mod LogCursors
pub mod LogExamples
pub mod LogLines
pub mod LoggedRuns
pub mod MergedLogs
pub mod OwnColumns
pub mod SortedEntries
pub mod TrappedEvents
