pub mod Told
pub mod Numbers
pub mod Evaluation
pub mod Parts
pub mod Full
