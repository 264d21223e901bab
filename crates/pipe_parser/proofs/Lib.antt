pub mod Results
pub mod ExpressionFronts
pub mod FullExpressions
pub mod StatementFronts
pub mod ProgramFronts
pub mod Depths
pub mod Parses
pub mod EachProgram
