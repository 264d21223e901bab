pub mod Entries
pub mod HeaviestPaths
pub mod SpanLaws
pub mod Tables
pub mod WorkAndSpan
