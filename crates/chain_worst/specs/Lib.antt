pub mod Aims
pub mod Arrivals
pub mod Built
pub mod Shown
pub mod Laws
