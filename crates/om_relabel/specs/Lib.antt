pub mod LabelledLinks
pub mod Labels
pub mod Links
pub mod Ranges
pub mod Stretches
