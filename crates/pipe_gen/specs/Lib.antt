pub mod Choices
pub mod Workload
pub mod WorkloadExamples
