pub mod Left
pub mod Initial
pub mod Value
