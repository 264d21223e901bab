pub mod BookLogs
pub mod Iterations
pub mod StartedInstances
pub mod Actions
pub mod Conditions
pub mod Keeping
