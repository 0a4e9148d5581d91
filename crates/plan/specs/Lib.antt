pub mod Work
pub mod Scan
pub mod Wire
pub mod Plans
pub mod Measure
pub mod Rows
pub mod Planned
pub mod PlanLaws
