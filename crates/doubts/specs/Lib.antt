pub mod Doubts
pub mod Plain
