-- Rows that the book holds apart: those that are not in use yet, and those whose tokens are out.
pub mod SpareRows
pub mod OutRows
