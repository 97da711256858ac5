pub mod Running
pub mod Opened
