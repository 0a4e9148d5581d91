pub mod Outcomes
pub mod Demands
