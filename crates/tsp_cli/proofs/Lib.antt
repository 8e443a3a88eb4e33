pub mod AuditLemmas
pub mod CommandLemmas
pub mod HeadlineLemmas
pub mod RunLemmas
mod SoFarLemmas
pub mod Statuses
