pub mod OwnerLaws
pub mod FollowerLaws
pub mod AccountLaws
pub mod PartLaws
pub mod PlaceLaws
