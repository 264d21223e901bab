-- The two orders of 2D-Order, and access histories.
pub mod OrderList
pub mod LeftParent
pub mod Starts
pub mod TwoOrders
pub mod AccessHistory
pub mod HistoryRaces
pub mod HistoryReports
pub mod OrderMarks
pub mod GrowingLists
pub mod HistoryStates
