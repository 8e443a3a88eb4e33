pub mod ClockChanges
pub mod Corrections
pub mod Lasts
pub mod SlaveAlarms
pub mod SlaveStands
