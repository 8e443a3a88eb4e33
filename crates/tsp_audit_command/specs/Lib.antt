pub mod ClaimReaders
pub mod Listings
pub mod Meaning
pub mod Readings
pub mod Sound
pub mod Stands
pub mod Texts
