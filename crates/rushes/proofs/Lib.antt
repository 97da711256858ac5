pub mod SplitLaws
pub mod RunLaws
pub mod EachLaws
pub mod PartLaws
