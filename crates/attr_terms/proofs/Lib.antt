pub mod Lists
pub mod Tables
pub mod PlaceLaws
pub mod KindLaws
pub mod SizeLaws
