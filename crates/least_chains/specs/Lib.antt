pub mod LeastAbove
pub mod LeastBound
