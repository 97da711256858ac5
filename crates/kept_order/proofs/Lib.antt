pub mod KeepsLaws
pub mod ClimbLaws
