pub mod GivenTokens
pub mod PreparedPrograms
pub mod Workers
