pub mod Looks
pub mod Named
pub mod Pages
