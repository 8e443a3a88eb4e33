pub mod ClaimedHistory
pub mod Fitting
pub mod HeldPosts
pub mod Listed
pub mod Stands
pub mod Steps
pub mod TakingIn
