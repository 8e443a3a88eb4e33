pub mod Audiences
pub mod Configs
pub mod Dues
pub mod Inputs
pub mod NodeStands
pub mod RoleAlarms
pub mod Unmarking
