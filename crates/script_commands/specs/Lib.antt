pub mod Play
pub mod Rush
