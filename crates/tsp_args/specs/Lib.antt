pub mod Addrs
pub mod Commands
pub mod Ports
pub mod Queries
pub mod Serves
pub mod Storms
