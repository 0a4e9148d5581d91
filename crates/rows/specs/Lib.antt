pub mod Row
pub mod Counts
pub mod Table
pub mod Gone
pub mod Connect
pub mod Unique
