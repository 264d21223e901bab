pub mod FirstFaults
pub mod Searches
