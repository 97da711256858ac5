pub mod Cuts
pub mod Digits
pub mod Lacks
pub mod SetTasks
pub mod NumberLaws
pub mod Parts
