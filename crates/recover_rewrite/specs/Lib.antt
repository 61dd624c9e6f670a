pub mod Due
pub mod Rewrite
