pub mod Order
pub mod Ready
pub mod Pads
pub mod Ends
