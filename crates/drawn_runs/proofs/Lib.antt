pub mod ListLaws
pub mod RunLaws
pub mod LateLaws
pub mod StandLaws
pub mod ApartLaws
