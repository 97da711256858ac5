pub mod Preferences
pub mod ReadsPreferred
pub mod ReadsAsked
pub mod LimitOrders
