pub mod Configs
pub mod NodesReady
pub mod WorldStands
