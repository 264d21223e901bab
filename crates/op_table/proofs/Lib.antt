pub mod BestRows
pub mod OperatorSymbols
pub mod TableRules
