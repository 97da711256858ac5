pub mod LaterLimits
pub mod OneOrder
pub mod WithoutOne
pub mod BestLatest
