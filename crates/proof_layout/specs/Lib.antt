pub mod Laid
pub mod Stored
pub mod Segments
pub mod Calls
pub mod Restarts
pub mod Plain
