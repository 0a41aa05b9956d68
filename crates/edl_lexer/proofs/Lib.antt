pub mod Closing
pub mod Divided
pub mod Longest
pub mod Reading
pub mod Turns
pub mod Within
