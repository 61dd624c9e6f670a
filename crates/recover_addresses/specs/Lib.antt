pub mod Offers
pub mod Told
pub mod Owners
pub mod Lies
