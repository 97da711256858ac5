pub mod DecidingLaws
pub mod PassLaws
pub mod BelowLaws
