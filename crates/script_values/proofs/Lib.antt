pub mod ActionLaws
pub mod CallLaws
pub mod FunctionLaws
pub mod HexLaws
pub mod NameLaws
pub mod NumberLaws
pub mod TableLaws
