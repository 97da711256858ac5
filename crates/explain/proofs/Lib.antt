pub mod ConflictLaws
pub mod PartLaws
pub mod BlockerLaws
pub mod NeedLaws
pub mod AccountLaws
pub mod SumLaws
