pub mod Last
pub mod Lengths
pub mod Entering
pub mod Steps
pub mod Whole
pub mod Unique
