pub mod Interrupted
pub mod Sources
pub mod Seen
