pub mod Recording
pub mod InstanceRuns
pub mod ColumnTraps
pub mod ElisionSteps
pub mod PartRuns
pub mod LoopRuns
pub mod Elisions
