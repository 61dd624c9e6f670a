pub mod Numbers
pub mod Groups
pub mod Zone
pub mod Segment
pub mod Accepted
pub mod Alike
pub mod Said
pub mod Theorem
