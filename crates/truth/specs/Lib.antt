pub mod Systems
pub mod Booleans
pub mod Solutions
pub mod Carry
pub mod CarryLaws
pub mod Past
pub mod Writes
pub mod Forward
