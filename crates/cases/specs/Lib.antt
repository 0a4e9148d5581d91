pub mod Cases
pub mod Shapes
