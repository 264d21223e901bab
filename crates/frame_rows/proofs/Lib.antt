pub mod Totals
pub mod PlacedRows
pub mod FrameRows
pub mod ChangedRows
pub mod AliveRows
pub mod StartRows
