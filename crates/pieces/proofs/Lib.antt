mod Cover
mod BandSums
pub mod PlaceLaws
mod BandLaws
