pub mod Samples
pub mod Told
pub mod Endings
pub mod Answers
pub mod OneAnswer
