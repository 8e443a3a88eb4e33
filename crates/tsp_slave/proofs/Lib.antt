pub mod BesideLemmas
pub mod ChangeLemmas
pub mod RoomLemmas
pub mod RowCases
pub mod SlaveLemmas
pub mod TellLemmas
