pub mod Empty
pub mod Values
pub mod Demand
pub mod Instance
