pub mod GainLemmas
pub mod OctetLemmas
pub mod PastLemmas
pub mod ReadBack
pub mod Rising
pub mod StaleLemmas
