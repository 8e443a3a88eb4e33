pub mod Packs
pub mod Returns
pub mod Shows
