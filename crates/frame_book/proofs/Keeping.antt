-- Each call keeps the invariant, and has its effect.
pub mod Stop
pub mod LeaveReady
pub mod Name
pub mod Finish
pub mod Hold
pub mod Begin
pub mod Enter
pub mod Resume
pub mod RaiseStop
pub mod New
pub mod Performed
pub mod Pass
