pub mod PlayLaws
pub mod TestLaws
pub mod RunLaws
