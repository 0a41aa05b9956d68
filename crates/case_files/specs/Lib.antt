pub mod Parts
pub mod Trials
