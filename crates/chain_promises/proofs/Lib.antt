pub mod HoldLaws
pub mod BestLaws
