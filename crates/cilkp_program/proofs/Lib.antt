pub mod GivenUp
pub mod ResultStatus
pub mod FormatLaws
pub mod SerialCallLaws
pub mod GridCalls
pub mod RecordCallLaws
