pub mod Eachs
pub mod Puts
pub mod Lanes
pub mod Executed
pub mod Folds
mod Chosen
mod Shown
pub mod Tonings
