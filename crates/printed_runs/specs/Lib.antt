pub mod TraceLines
pub mod RunRows
pub mod Clean
