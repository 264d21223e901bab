pub mod PlannedPrograms
