pub mod Flags
pub mod Index
pub mod Found
pub mod Owners
pub mod Values
pub mod Ranges
