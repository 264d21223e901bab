-- What a player keeps of its run, event by event.
pub mod Steps
pub mod Outlines
pub mod Accesses
pub mod Ends
pub mod Enters
pub mod Begins
pub mod Turns
pub mod Beginnings
