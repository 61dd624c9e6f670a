pub mod Checks
pub mod Passed
pub mod Empty
pub mod Reads
