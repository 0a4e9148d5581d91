pub mod Plan
pub mod WorkLaws
