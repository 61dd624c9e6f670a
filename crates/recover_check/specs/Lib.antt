pub mod Faults
pub mod Mends
