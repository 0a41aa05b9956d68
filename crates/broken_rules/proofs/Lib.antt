pub mod Firsts
pub mod FunctionLaws
pub mod TypeLaws
pub mod NameLaws
