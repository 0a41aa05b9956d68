pub mod FieldLaws
pub mod ParamLaws
pub mod KnownShapes
pub mod FrameBounds
pub mod Unbroken
pub mod Bounds
pub mod SoundLaws
pub mod Soundness
