pub mod TestedLists
pub mod DequeSteps
pub mod EndCalls
pub mod FrontSteps
pub mod UnusedEnds
pub mod EndTotals
pub mod AllEnds
