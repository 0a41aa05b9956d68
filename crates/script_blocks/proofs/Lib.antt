pub mod LineLaws
pub mod PlaceLaws
pub mod ActLaws
pub mod ThreadLaws
pub mod SlotLaws
pub mod BodyLaws
