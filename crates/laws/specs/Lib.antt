pub mod Tests
pub mod Places
pub mod Bits
pub mod Flat
