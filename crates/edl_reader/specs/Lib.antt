pub mod Accepted
pub mod Sources
pub mod Told
