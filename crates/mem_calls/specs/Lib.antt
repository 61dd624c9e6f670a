pub mod Left
pub mod Listed
