pub mod Comparisons
pub mod FoldedHistories
pub mod GrownLists
pub mod NotedAccesses
pub mod KnownAccesses
pub mod KnownInstances
