pub mod Decode
pub mod Placed
pub mod Order
pub mod Ready
pub mod Sought
pub mod Part
pub mod Ends
