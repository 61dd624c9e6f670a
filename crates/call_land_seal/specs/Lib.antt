pub mod Feet
