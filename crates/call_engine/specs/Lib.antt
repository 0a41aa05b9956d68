pub mod Interfaces
pub mod Plain
pub mod Prepared
pub mod Told
