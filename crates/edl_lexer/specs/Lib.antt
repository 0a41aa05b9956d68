pub mod Bounds
pub mod Division
pub mod FirstFault
pub mod Lexemes
pub mod Lexing
