-- Runs and the serial elision: why a run without a race computes what the elision computes.
pub mod Beginnings
pub mod ColumnOrder
pub mod FinishedRuns
pub mod NextAccesses
pub mod RaceFreeElisions
pub mod RaceFreeRuns
pub mod SerialIterations
pub mod SerialRun
pub mod SerialSteps
