pub mod Lines
pub mod Entries
pub mod Parts
pub mod Putting
pub mod Loops
pub mod Sections
