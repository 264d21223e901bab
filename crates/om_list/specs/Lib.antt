pub mod ChosenLabels
pub mod KeptLists
pub mod LabelledList
