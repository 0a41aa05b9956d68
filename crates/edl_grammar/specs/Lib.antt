pub mod Symbols
pub mod Production
pub mod Grammar
pub mod Sentence
pub mod Files
pub mod Parser
pub mod Examples
