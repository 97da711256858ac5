pub mod Exact
pub mod Misses
pub mod Shown
pub mod Reached
pub mod Going
