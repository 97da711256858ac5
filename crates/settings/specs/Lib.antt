pub mod Settings
pub mod Numbering
