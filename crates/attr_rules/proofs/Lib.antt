pub mod SizedTypes
pub mod CheckLaws
pub mod NamesApart
pub mod FieldEnds
pub mod KnownFields
pub mod PassedClasses
pub mod RunnableLaws
pub mod FieldOrder
