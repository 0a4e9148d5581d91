pub mod Then
pub mod Runs
pub mod Ways
pub mod Worksheets
pub mod Unique
