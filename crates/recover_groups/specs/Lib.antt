pub mod Groups
pub mod Bases
pub mod Faulty
pub mod Chunks
pub mod Entering
pub mod Pieces
