pub mod Answering
pub mod Copying
pub mod Examples
pub mod Local
pub mod Refusing
pub mod Transfers
pub mod Undisturbed
pub mod Within
