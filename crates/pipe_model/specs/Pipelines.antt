-- Pipelines: what iterations do, the store, and the serial elision.
pub mod Behaviour
pub mod Pipeline
pub mod Store
pub mod SerialElision
pub mod ElisionResults
pub mod WholePrograms
