pub mod TextLines
pub mod Known
pub mod Naming
pub mod Steps
pub mod Words
pub mod WordsFields
