pub mod Tasks
pub mod HeldTokens
pub mod OwnedEnds
