pub mod Hosts
pub mod Shorts
