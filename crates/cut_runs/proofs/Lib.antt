pub mod RankLaws
pub mod CutLaws
