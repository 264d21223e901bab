-- One iteration: its behaviour, its trace, and the serial trace.
pub mod CellWrites
pub mod ElisionTraces
pub mod Interpreters
pub mod LocatedActions
pub mod PerformedActions
pub mod Replies
pub mod SerialTraces
pub mod TraceParts
