pub mod Walk
pub mod Ready
pub mod Head
pub mod Index
