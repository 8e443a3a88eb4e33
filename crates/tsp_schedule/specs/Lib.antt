pub mod Refusing
pub mod Schedules
pub mod Stages
