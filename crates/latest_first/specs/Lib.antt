pub mod LatestFirst
pub mod Tested
