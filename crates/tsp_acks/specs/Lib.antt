pub mod Calls
pub mod Changes
pub mod Openings
pub mod Peers
pub mod Posts
pub mod Stands
