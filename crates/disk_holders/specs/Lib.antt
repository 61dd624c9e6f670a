pub mod Borne
pub mod Next
pub mod Held
pub mod Opened
pub mod Records
