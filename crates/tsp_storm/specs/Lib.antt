pub mod Answers
pub mod Kept
pub mod Makings
pub mod Schedules
pub mod Summaries
