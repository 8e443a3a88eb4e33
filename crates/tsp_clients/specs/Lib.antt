pub mod ClientStands
