pub mod Asks
pub mod Perform
pub mod PerformLaws
pub mod Cells
pub mod AskLaws
