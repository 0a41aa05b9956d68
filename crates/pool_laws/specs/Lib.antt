pub mod Example
pub mod Keeping
pub mod Machines
pub mod Participants
