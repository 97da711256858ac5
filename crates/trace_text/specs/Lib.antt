pub mod TraceLines
pub mod TraceFaults
