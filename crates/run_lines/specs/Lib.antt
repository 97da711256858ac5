pub mod Reached
pub mod TaskBounds
pub mod RunLines
pub mod Responses
