pub mod ListItems
pub mod ShardAccesses
pub mod ReplayedAccesses
