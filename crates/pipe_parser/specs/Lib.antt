pub mod ExpressionFaults
pub mod SyntaxFaults
pub mod StatementReadings
pub mod SymbolFronts
pub mod ProgramReadings
pub mod Depths
pub mod Parses
pub mod ParsingLaw
