pub mod Daysides
pub mod Octets
