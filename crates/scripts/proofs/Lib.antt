pub mod Ahead
pub mod ScriptLaws
pub mod KeptSections
pub mod Nodes
