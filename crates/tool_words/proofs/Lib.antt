pub mod Rows
pub mod ReadLaws
