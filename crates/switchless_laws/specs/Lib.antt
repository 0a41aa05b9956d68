pub mod Example
pub mod Held
pub mod Moments
pub mod Phases
pub mod Roles
pub mod Servings
pub mod Tallies
