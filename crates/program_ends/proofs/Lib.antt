pub mod RunColumns
pub mod RunResults
pub mod ElidedRuns
