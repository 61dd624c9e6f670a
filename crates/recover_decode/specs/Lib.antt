pub mod Moving
pub mod Group
