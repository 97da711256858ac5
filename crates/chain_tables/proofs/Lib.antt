pub mod TableLaws
pub mod DocumentLaws
pub mod TaskLaws
pub mod NumberLaws
