pub mod Stand
pub mod Boot
pub mod Missed
pub mod Fresh
pub mod Mend
pub mod Calls
pub mod Demand
