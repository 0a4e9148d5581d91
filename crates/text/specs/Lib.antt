pub mod Texts
pub mod Puts
pub mod Decimals
pub mod Putting
pub mod Unique
