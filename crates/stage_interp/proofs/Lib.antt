pub mod Accesses
pub mod PureEffects
pub mod Running
pub mod Starts
pub mod Chains
