pub mod Numbers
pub mod Spelling
pub mod Faults
pub mod Canon
pub mod Taken
