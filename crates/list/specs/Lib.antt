pub mod Listing
pub mod LineLengths
pub mod Lengths
pub mod Promise
pub mod Analysed
pub mod Unique
