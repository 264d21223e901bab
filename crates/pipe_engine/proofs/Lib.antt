pub mod OverRuns
pub mod JoinedSeats
pub mod CollectedCells
pub mod LoopEnds
pub mod NeededColumns
pub mod EngineRuns
