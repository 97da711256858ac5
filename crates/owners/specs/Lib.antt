pub mod Followers
pub mod Clocks
pub mod Owners
pub mod Accounts
pub mod Parts
