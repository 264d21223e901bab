-- Starts of instances: their marks, their parents, and the orders.
pub mod StartMarks
pub mod GrownMarks
pub mod LeftParents
pub mod OtherTokens
