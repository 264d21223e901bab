pub mod EndedInstances
