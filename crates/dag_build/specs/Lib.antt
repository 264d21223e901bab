pub mod AccessFronts
pub mod ClearAccesses
pub mod Jumps
pub mod NodeColumns
pub mod RacingAccesses
