pub mod LoopLaws
pub mod OutcomeLaws
pub mod StepLaws
pub mod WaitLaws
