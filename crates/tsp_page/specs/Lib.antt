pub mod Formula
pub mod Halves
pub mod Numbers
pub mod Pages
pub mod Pasts
pub mod Ranks
pub mod Readings
pub mod Sound
