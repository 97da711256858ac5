pub mod ShownSlices
pub mod ShownJobs
pub mod Beside
pub mod Traces
