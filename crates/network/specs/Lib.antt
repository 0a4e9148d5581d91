pub mod Network
pub mod Faults
pub mod Layout
pub mod Lists
pub mod Entries
pub mod Verdicts
pub mod Ranges
pub mod Places
