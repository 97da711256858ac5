pub mod Breaks
pub mod Causes
pub mod Sweeps
pub mod Jobless
pub mod Broken
pub mod Reached
pub mod ObservedLines
