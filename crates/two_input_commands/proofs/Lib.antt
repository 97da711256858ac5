mod BesideRefusals
mod BesideTexts
mod Drawings
pub mod Observations
pub mod Ordered
mod RowNames
pub mod NewRefusals
pub mod WorstChains
mod Ways
