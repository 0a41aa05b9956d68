pub mod Changing
pub mod Examples
pub mod Passing
pub mod Repeating
