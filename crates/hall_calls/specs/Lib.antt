pub mod HallNames
pub mod Closing
pub mod NewShards
