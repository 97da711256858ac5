pub mod EasierLaws
pub mod CostLaws
pub mod OrderLaws
pub mod PlacedLaws
