pub mod Accesses
pub mod Histories
pub mod Rule
pub mod Seats
pub mod Sitting
pub mod Writes
