pub mod Lowest
pub mod Fronts
pub mod Names
