pub mod Breaches
pub mod Names
