pub mod SearchLaws
pub mod MakeLaws
