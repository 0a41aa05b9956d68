pub mod Entry
pub mod Stack
pub mod Standing
pub mod Lists
pub mod Passes
pub mod Tables
