pub mod Matches
pub mod Walks
pub mod Numbers
pub mod Taken
pub mod Entered
pub mod Listed
