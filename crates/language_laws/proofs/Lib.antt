pub mod SpelledSizes
pub mod SpelledMarks
pub mod TokenCounts
pub mod WritableOperators
pub mod SpellablePrograms
pub mod MarkedTokens
pub mod MarkPlaces
