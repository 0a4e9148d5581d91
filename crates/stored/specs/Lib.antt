pub mod Stored
pub mod Back
pub mod Truths
pub mod Figures
