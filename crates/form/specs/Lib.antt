pub mod Numbers
pub mod References
pub mod Refusals
pub mod Placed
pub mod Verdicts
pub mod Writing
