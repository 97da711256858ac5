pub mod Tables
pub mod Documents
pub mod Chains
