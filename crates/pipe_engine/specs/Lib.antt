pub mod SeenRuns
pub mod LoopEnds
pub mod FinalCells
pub mod EngineRuns
