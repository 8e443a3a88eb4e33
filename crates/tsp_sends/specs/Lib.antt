pub mod Deadlines
pub mod Held
pub mod Repeating
pub mod Slots
pub mod Trees
