pub mod Blocks
pub mod Acts
pub mod Slots
pub mod Bodies
