pub mod ClosedHalls
pub mod HallRuns
pub mod HallReports
pub mod HallPrograms
pub mod HallExamples
pub mod HallOrders
