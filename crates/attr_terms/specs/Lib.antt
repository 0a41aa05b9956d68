pub mod Attributes
pub mod Kinds
pub mod Rules
pub mod Places
pub mod Taken
pub mod Accepted
pub mod Sizing
