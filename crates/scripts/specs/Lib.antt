pub mod ScriptWords
pub mod Gives
pub mod Script
