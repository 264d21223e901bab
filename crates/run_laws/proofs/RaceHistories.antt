-- Access histories, the races that they find and the reports of these.
pub mod AccessOrder
pub mod CellReports
pub mod FirstRaces
pub mod KeptInstances
pub mod RunHistories
pub mod SilentHistories
