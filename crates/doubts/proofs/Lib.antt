pub mod FirstLaws
pub mod PlainLaws
