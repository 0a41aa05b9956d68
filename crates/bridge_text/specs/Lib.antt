pub mod Template
pub mod Declarations
pub mod Types
pub mod Products
pub mod Bridges
