pub mod Commands
pub mod Headline
pub mod Lines
pub mod Statuses
pub mod Rates
pub mod Usage
