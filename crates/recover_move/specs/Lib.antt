pub mod Pieces
pub mod Moves
