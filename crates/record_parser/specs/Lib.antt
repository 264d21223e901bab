pub mod ByteDivisions
pub mod LogForms
pub mod OutcomeForms
pub mod PlainDecimals
pub mod ReadingLaws
pub mod RecordLines
