pub mod Shapes
pub mod Arguments
pub mod Lines
pub mod Tables
pub mod Openings
pub mod Nesting
pub mod Places
