pub mod System
pub mod Wired
pub mod Answers
pub mod Switches
