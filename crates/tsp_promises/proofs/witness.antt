-- Worked histories, and what shows that they fit.
pub mod BrokenClocks
pub mod BrokenRoles
pub mod BrokenRounds
pub mod BrokenSends
pub mod Debts
pub mod Histories
pub mod HistoriesFit
pub mod PremiseChecks
pub mod Spots
pub mod StepChecks
pub mod WitnessChain
pub mod WitnessClocks
pub mod WitnessDates
pub mod WitnessRivals
pub mod WitnessRounds
pub mod WitnessUse
pub mod WitnessWords
