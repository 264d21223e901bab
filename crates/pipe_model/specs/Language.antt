-- The language: symbols, grammar, rules, evaluation, canonical text, and the reasons for which a source is refused.
pub mod SyntaxTree
pub mod Lexis
pub mod Tokens
pub mod Words
pub mod Grammar
pub mod Spelling
pub mod SourceSpelling
pub mod SpellablePrograms
pub mod Interaction
pub mod Evaluation
pub mod Programs
pub mod CanonicalText
pub mod Marks
pub mod MarkPlaces
pub mod CheckingRules
pub mod SourceRefusals
pub mod ProgramsOfTrees
