mod CallRows
pub mod Calls
pub mod Head
pub mod Placed
mod Texts
pub mod Words
