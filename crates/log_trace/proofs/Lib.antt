mod Lines
mod Logs
mod Steps
