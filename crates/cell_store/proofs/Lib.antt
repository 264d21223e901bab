pub mod DeclaredCells
pub mod WrittenCells
pub mod CopiedCells
pub mod FreshShards
