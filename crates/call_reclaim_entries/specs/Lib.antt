pub mod Inverse
pub mod Entries
