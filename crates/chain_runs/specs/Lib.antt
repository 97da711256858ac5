pub mod Slices
pub mod Outputs
pub mod DeadlineOutputs
pub mod ChainOutputs
pub mod Outcomes
pub mod Runs
pub mod Strays
pub mod RunChainLines
