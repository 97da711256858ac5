pub mod Growth
pub mod WholeTable
pub mod Highest
pub mod Reached
pub mod HoldLaws
pub mod OutrankedLaws
