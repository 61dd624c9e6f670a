pub mod Held
pub mod Same
pub mod Split
