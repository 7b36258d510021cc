pub mod Counts
pub mod Nodes
pub mod Fields
pub mod Units
