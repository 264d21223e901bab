pub mod Recording
pub mod InstanceRuns
pub mod PartRuns
pub mod StepCounts
pub mod Elided
pub mod Elisions
pub mod RunTraps
pub mod Results
