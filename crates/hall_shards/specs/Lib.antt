pub mod ShardValues
pub mod Accesses
pub mod Learning
pub mod FoundRaces
