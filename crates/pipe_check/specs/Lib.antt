pub mod Passing
pub mod CellShapes
pub mod CellTables
pub mod Accepted
pub mod RuleLaws
pub mod CheckingExamples
