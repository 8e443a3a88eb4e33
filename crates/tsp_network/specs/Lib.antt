pub mod ClocksUse
pub mod Events
pub mod Kept
pub mod Lives
pub mod NetworkUse
pub mod Networks
pub mod Rosters
pub mod Told
