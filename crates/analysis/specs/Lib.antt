pub mod Wiring
pub mod Result
pub mod Analysis
pub mod Room
pub mod Lengths
