pub mod SeenRuns
pub mod SameEnds
pub mod TokenSums
