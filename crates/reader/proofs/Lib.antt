pub mod Reading
pub mod Whole
pub mod File
pub mod Unique
