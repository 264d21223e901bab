pub mod ScriptBehaviours
mod StayingTokens
mod HeldLists
mod CallChanges
pub mod PlanSteps
