pub mod Ends
pub mod Kept
pub mod Marked
pub mod Order
pub mod Plan
pub mod Ready
