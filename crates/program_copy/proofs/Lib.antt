pub mod CopiedStatements
