pub mod ElementsWithin
pub mod RisingLabels
pub mod SparseRanges
pub mod SpreadLabels
pub mod Stretches
pub mod Walks
