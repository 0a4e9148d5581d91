pub mod Turns
pub mod Ways
pub mod Levels
