pub mod Order
pub mod Ends
