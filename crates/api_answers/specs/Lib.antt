pub mod Hears
pub mod Numbers
pub mod Applied
pub mod Stateless
