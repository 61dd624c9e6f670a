pub mod Made
pub mod Empty
