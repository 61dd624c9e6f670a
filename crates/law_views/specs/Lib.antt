pub mod Views
pub mod Pointers
pub mod Looked
pub mod Alike
