pub mod Ranged
pub mod Made
pub mod Sheets
pub mod SheetLaws
pub mod Passed
pub mod System
pub mod Labels
pub mod Switches
