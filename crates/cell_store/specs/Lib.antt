pub mod ShardState
pub mod ShardLaws
pub mod Reserves
