pub mod Tallies
pub mod Draws
pub mod Ends
pub mod Heads
pub mod Mades
pub mod Steps
pub mod Ups
mod BootWords
pub mod StormKeeps
mod Tame
pub mod Requests
