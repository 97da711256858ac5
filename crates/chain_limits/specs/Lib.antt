pub mod Reaches
pub mod Standings
