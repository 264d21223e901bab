pub mod CheckedLoops
pub mod CheckedRecords
pub mod FollowedEvents
pub mod RecordLaws
