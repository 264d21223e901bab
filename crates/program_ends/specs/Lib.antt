pub mod ProgramEnds
