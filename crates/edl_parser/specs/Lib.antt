pub mod Reads
pub mod Depth
pub mod Spots
