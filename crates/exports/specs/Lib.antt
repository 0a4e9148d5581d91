pub mod Codes
pub mod Bounds
pub mod Doors
pub mod Unique
