pub mod BookCalls
pub mod EndingCalls
pub mod TakenBooks
pub mod PayloadSeats
pub mod Rescuing
pub mod InstanceAccesses
pub mod KnownBefore
pub mod Closing
pub mod Raising
pub mod Freeing
pub mod FirstTables
pub mod TokenMoves
pub mod Crossing
mod LentSlots
