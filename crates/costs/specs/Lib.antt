pub mod Closed
pub mod Bounds
pub mod Built
pub mod Before
pub mod Narrow
