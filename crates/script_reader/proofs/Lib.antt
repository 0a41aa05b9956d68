pub mod ForeignLaws
