pub mod Code
pub mod Chunks
pub mod Survives
pub mod Single
