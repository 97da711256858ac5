pub mod Answers
pub mod Workload
pub mod WorkloadFields
pub mod Starts
pub mod Slowed
