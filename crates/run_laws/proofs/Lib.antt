pub mod Elision
pub mod WorkedExamples
pub mod Iterations
pub mod ListOrders
pub mod LogMerge
pub mod RaceHistories
pub mod RunStates
