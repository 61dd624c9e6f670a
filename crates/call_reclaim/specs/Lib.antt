pub mod Choosing
pub mod Clearing
pub mod Ends
