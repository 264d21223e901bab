pub mod CellAccesses
pub mod LevelLaws
pub mod Members
pub mod NestedBlocks
pub mod RacesByCell
