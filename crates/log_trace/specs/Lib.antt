pub mod Examples
pub mod Trace
