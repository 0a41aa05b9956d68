pub mod Checked
pub mod ForRun
