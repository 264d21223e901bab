pub mod RowLaws
pub mod SerialCalls
pub mod Formatting
pub mod WaveCalls
pub mod RecordCalls
