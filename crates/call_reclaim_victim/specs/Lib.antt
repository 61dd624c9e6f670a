pub mod Looked
pub mod Waiting
pub mod Outside
pub mod Vouched
