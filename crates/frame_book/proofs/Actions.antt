-- The actions of an iteration, by its traces and the log.
pub mod TraceActions
pub mod LegalActions
pub mod RepliesLeft
