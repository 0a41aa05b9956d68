pub mod Blocks
pub mod Changes
pub mod Layouts
pub mod Walks
