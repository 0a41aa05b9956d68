pub mod AnswerLaws
pub mod CompleteLaws
pub mod KeptLaws
pub mod MakeLaws
