pub mod NameLaws
pub mod LoopLaws
