-- The state of a run: frames, columns and accesses, and what every event keeps of them.
pub mod Completed
pub mod EventBounds
pub mod FrameAccesses
pub mod FrameMoves
pub mod FrameTraces
pub mod Frames
pub mod FrontAndBack
pub mod GrowingColumns
pub mod IterationCounts
pub mod LastIteration
pub mod LaterEdges
pub mod LoopEnds
pub mod Progress
pub mod QuietEvents
pub mod RunAccesses
pub mod RunInvariant
pub mod RunningInstances
