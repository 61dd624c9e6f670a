pub mod History
pub mod Filling
pub mod Example
pub mod Order
pub mod Theorem
