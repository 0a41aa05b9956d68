pub mod CopyLaws
pub mod CutLaws
pub mod Fetches
pub mod TextLaws
