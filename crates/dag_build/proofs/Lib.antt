pub mod CellGroups
pub mod ClearLaws
pub mod FirstRaceLaws
pub mod FrontLaws
pub mod Moves
pub mod Paths
pub mod RacePlaces
pub mod SortedAccesses
