pub mod Sorted
pub mod Groups
pub mod Zones
pub mod Column
pub mod Drive
