pub mod AboveLaws
pub mod PartLaws
pub mod StepLaws
pub mod BoundLaws
