pub mod Shares
pub mod Digits
