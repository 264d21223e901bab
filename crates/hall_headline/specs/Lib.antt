pub mod HallEnds
pub mod EndedPrograms
