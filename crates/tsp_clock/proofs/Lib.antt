pub mod ClockLemmas
pub mod Slewing
