pub mod ShareLaws
pub mod NameLaws
pub mod RankLaws
pub mod RunLaws
pub mod CaseLaws
pub mod TextLaws
pub mod TraceLaws
