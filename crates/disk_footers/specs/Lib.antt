pub mod Feet
pub mod Laid
