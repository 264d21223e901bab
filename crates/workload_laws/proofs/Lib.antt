pub mod AcceptedSources
mod DecimalValues
pub mod ReadInputs
