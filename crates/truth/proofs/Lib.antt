pub mod Backward
pub mod Theorem
pub mod Past
