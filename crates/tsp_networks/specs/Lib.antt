pub mod Heads
pub mod Parcels
pub mod Posts
pub mod Rooms
pub mod Sheets
