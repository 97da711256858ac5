pub mod Shares
pub mod LeastWindows
pub mod FirstCovers
pub mod Walks
pub mod AboveLaws
pub mod InterruptSums
pub mod UninterruptedLaws
pub mod SlowedLaws
