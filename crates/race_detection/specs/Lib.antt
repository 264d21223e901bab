pub mod FoundReports
pub mod NotedRuns
pub mod LogAccesses
pub mod DetectionLaws
