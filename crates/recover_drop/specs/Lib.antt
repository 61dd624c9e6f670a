pub mod Going
pub mod AnyList
pub mod Rising
pub mod Dropped
