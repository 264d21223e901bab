pub mod CellAccesses
pub mod KeptInstances
pub mod KnownOrder
