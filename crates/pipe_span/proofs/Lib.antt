pub mod AllRows
pub mod ChosenPaths
pub mod ElisionWeights
pub mod ColumnRows
pub mod LeftParents
pub mod StepWeights
pub mod TracedPaths
