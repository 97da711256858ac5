pub mod QueueLaws
pub mod TickLaws
pub mod LockLaws
pub mod ListLaws
pub mod ExistLaws
