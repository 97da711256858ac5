pub mod ScriptLaws
pub mod WorstChains
