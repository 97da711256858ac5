pub mod Executions
pub mod Outputs
pub mod DeadlineOutputs
pub mod Steady
pub mod Lates
pub mod TraceChainLines
