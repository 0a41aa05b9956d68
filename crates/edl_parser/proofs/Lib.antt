pub mod Sees
pub mod Loops
pub mod Deep
pub mod Answer
