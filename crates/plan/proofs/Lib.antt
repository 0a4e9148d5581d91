pub mod Measure
pub mod Planned
