pub mod Tallies
pub mod WorkerEnds
pub mod FrontsSoFar
