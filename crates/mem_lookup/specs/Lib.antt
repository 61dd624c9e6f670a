pub mod Lies
pub mod Places
pub mod Shown
