pub mod Ends
pub mod Kept
pub mod Nodes
pub mod Pages
pub mod Posts
pub mod Serving
pub mod Sessions
pub mod Waits
