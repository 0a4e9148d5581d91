pub mod Values
pub mod Filling
pub mod Unique
