pub mod LaneLists
pub mod LaneTokens
