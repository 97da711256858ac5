pub mod PrintedRuns
pub mod OfRuns
pub mod KeptPromises
