pub mod NamedStages
mod OneEnds
