pub mod Labels
pub mod Switches
pub mod Starts
pub mod Sheet
pub mod Unique
