pub mod HeldLemmas
pub mod PlaceLemmas
pub mod SearchLemmas
pub mod SendsLemmas
pub mod SlotLemmas
pub mod TreeLemmas
