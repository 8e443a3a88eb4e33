mod DaemonSetting
pub mod LineLemmas
pub mod NodeLemmas
pub mod PageLemmas
pub mod PagePasts
pub mod ReadLemmas
pub mod SendLemmas
pub mod ServeLemmas
mod SessionFits
pub mod SessionLemmas
pub mod StrangerLemmas
pub mod TurnLemmas
pub mod WaitLemmas
