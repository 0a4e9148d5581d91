pub mod StoredLaws
pub mod Lengths
