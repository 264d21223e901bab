pub mod FoundCells
pub mod RaceLines
