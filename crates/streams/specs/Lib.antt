pub mod Watching
pub mod Sending
pub mod Inputs
pub mod Puts
