pub mod Paths
pub mod PathLaws
