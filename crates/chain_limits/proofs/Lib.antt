pub mod LessLaws
pub mod MetLaws
pub mod OrderedLaws
pub mod ReachLaws
