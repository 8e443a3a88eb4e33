pub mod NamedProof
pub mod NearProof
pub mod PageProof
pub mod WithinProof
