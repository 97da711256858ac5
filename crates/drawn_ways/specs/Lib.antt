pub mod Sources
pub mod Legs
pub mod Stands
pub mod Stops
pub mod WayMarks
pub mod WaySigns
pub mod WayTexts
pub mod WayLaws
