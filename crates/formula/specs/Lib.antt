pub mod Make
pub mod MakeLaws
pub mod Search
pub mod Givens
pub mod GivenLaws
pub mod Worth
pub mod WorthLaws
