pub mod CulpritLaws
pub mod HomeLaws
pub mod InterruptSums
pub mod NearLaws
pub mod PlaceLaws
pub mod SharedLaws
pub mod SightLaws
pub mod SweepLaws
