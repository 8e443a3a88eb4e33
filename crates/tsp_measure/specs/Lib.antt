pub mod Measures
pub mod Peers
pub mod Rounds
pub mod Slaves
