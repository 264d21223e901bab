pub mod StageWaits
pub mod PlanStates
pub mod ScriptPrograms
pub mod HeldTokens
