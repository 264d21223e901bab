pub mod Boards
pub mod ControlPrefixes
pub mod CallEffects
pub mod Sharding
pub mod Steps
pub mod SeatPlaces
pub mod Seating
pub mod Crossing
