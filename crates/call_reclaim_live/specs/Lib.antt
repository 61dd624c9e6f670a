pub mod Owners
pub mod Live
pub mod Fewest
pub mod Least
