pub mod Aims
pub mod Entries
pub mod Left
