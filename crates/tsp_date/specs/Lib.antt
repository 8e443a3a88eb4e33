pub mod DateStands
pub mod Dates
pub mod Tasks
