pub mod Deciding
pub mod Below
pub mod Asked
pub mod Worst
pub mod WorstLines
