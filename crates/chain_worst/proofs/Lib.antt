pub mod ArrivalLaws
pub mod JobLaws
pub mod ListLaws
pub mod SteadyLaws
pub mod AimLaws
pub mod PlanLaws
