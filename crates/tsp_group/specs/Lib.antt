pub mod Groups
pub mod Values
pub mod Windows
