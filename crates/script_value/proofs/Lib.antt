pub mod RangeLaws
pub mod LeftLaws
pub mod FoldLaws
pub mod WordLaws
pub mod SettingLaws
pub mod RaceLaws
pub mod FitLaws
pub mod ValueLaws
