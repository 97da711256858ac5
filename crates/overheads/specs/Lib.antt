pub mod Padding
pub mod Rule
