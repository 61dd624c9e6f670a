pub mod Same
pub mod Lost
pub mod Rebuilt
pub mod Good
