pub mod StubFiles
pub mod Examples
