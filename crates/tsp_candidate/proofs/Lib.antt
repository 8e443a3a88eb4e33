pub mod AlsoLemmas
pub mod AnswerLemmas
pub mod RowCases
