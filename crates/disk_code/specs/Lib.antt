pub mod Folds
pub mod Slots
