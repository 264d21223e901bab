pub mod Commands
pub mod CommandLine
pub mod OptionNumbers
pub mod CommandRanges
pub mod CommandWords
pub mod WordExamples
pub mod RunWordsData
