pub mod Lengths
pub mod Parameters
pub mod Sound
pub mod Runnable
pub mod Order
