pub mod Seats
pub mod Own
pub mod Chains
pub mod ChainsKept
pub mod Keys
pub mod Whole
pub mod ChangeLines
pub mod Unchanged
