pub mod HeadLemmas
pub mod MemberLemmas
pub mod TellLemmas
pub mod BesideLemmas
