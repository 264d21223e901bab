pub mod TaskNumbers
pub mod Lanes
pub mod TokensOut
