mod SampleEndings
mod ToldLaws
pub mod EndingLaws
pub mod OneAnswer
