pub mod Direct
pub mod Marks
pub mod Sweep
pub mod Solve
pub mod Promise
pub mod Unique
