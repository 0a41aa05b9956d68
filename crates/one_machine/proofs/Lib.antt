pub mod OneMachine
pub mod Tables
