pub mod FillLaws
mod Joining
mod ProductLaws
