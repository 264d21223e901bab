pub mod CellNames
pub mod RaceReports
