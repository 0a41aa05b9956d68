pub mod Racing
pub mod Writes
