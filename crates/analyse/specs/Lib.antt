pub mod Solved
pub mod Filled
pub mod Promise
pub mod Unique
