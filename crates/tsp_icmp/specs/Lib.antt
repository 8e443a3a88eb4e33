pub mod Checksums
pub mod Spelling
pub mod Days
