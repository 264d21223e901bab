pub mod TextLaws
pub mod FormatExamples
