pub mod Clearing
pub mod Closing
pub mod Frames
pub mod MasterAlarms
pub mod MasterStands
pub mod MasterTakes
