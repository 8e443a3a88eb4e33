pub mod Schedules
pub mod Traces
pub mod Meaning
pub mod Stages
pub mod LineTexts
