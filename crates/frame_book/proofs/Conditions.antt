-- The conditions of calls, by the rows and by the state.
pub mod MayEnter
pub mod EnteredRows
pub mod KeptCounters
pub mod AdvancedStates
pub mod Courses
pub mod Rescue
pub mod WaitingForTokens
pub mod OutTokens
