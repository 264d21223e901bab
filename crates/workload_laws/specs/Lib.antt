pub mod GeneratedPrograms
pub mod GeneratedNumbers
