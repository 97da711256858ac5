pub mod TickLaws
pub mod LevelLaws
pub mod BlockLaws
pub mod ListLaws
pub mod SeenLaws
pub mod BreakLaws
