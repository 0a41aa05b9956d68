pub mod Crossing
pub mod Names
pub mod Seating
pub mod Shuffles
pub mod Steps
pub mod WriteLaws
