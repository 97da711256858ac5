pub mod Commands
pub mod Saying
