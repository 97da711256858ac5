pub mod LockLaws
pub mod NumberingLaws
