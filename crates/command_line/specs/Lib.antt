pub mod SearchPath
