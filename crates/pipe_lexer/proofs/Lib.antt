pub mod FirstPlace
pub mod EachSource
pub mod Longest
pub mod Numerals
pub mod PieceLaws
pub mod Punctuation
pub mod ScanLaws
