pub mod Swap
pub mod Stand
pub mod Begins
pub mod Asked
