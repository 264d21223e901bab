pub mod OwnStarts
pub mod PlayedEvents
pub mod LabelledTests
pub mod GrownHistories
