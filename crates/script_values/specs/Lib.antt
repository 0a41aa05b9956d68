pub mod Actions
pub mod Calls
pub mod Functions
