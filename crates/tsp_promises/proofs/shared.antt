-- What several proofs share: places of a history, ports, clocks and elections.
pub mod AloneLemmas
pub mod Clocks
pub mod ElectionFacts
pub mod Elections
pub mod EverywhereLemmas
pub mod HistoryPlaces
pub mod MasterMoved
pub mod PortLists
pub mod Printed
pub mod Rates
pub mod RoundPlaces
pub mod SendPlaces
pub mod SteadyLemmas
pub mod StrangerFacts
