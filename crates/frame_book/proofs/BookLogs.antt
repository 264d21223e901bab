-- Logs with more entries, and what follows from them.
pub mod LogEntries
pub mod AtEvents
pub mod TokensOfStates
