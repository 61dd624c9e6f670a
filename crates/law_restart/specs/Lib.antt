pub mod Stripes
pub mod Feet
pub mod Settled
pub mod Frames
