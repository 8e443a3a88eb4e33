pub mod Records
pub mod Findings
pub mod Bests
pub mod Meaning
