pub mod ChainLines
pub mod Leasts
