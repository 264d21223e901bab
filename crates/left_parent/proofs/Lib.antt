pub mod LeftParentSearch
pub mod PartitionPoints
