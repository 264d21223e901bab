pub mod Reading
pub mod ExpressionMachine
pub mod ProgramMachine
pub mod SpellingLaws
pub mod TokenLaws
