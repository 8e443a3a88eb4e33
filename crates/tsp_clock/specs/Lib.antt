pub mod ClockStands
pub mod Clocks
