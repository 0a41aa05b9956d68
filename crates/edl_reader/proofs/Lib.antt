pub mod CauseLaws
pub mod InterfaceLaws
pub mod ReadLaws
pub mod SourceLaws
