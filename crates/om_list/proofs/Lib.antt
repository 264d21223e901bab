pub mod ChosenLabels
pub mod Insertions
pub mod LinkedLists
