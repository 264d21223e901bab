pub mod Totals
pub mod NamedStages
pub mod Courses
pub mod IterationRows
pub mod RowsOfFrames
pub mod AliveLists
pub mod Places
