-- Wave loops: loops that fill a grid in which a point needs its upper and its left neighbour; and the pipelines to which they are lowered.
pub mod WaveLoops
pub mod LoweredLoops
pub mod Points
pub mod Grid
pub mod GridResults
pub mod MarkFlags
pub mod WaveFaults
