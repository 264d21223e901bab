pub mod SpellableLaws
pub mod MarkLaws
pub mod LanguageExamples
