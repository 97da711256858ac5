pub mod App
pub mod Calls
pub mod Commands
