pub mod MappedSets
pub mod PaddedSections
pub mod PaddedTasks
pub mod PaddedSets
pub mod ChargedSets
pub mod RuleLaws
