pub mod Marked
pub mod ResolveStands
