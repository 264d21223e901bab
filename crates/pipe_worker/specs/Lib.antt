pub mod Machines
pub mod HeldInstances
pub mod Workers
