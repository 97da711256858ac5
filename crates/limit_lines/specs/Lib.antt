pub mod LimitLines
pub mod Locks
pub mod Common
pub mod ChainReaches
pub mod Whole
