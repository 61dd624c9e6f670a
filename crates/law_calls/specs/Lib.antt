pub mod Refusals
pub mod Slots
pub mod Sends
