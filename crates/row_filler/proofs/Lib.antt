pub mod Areas
pub mod Nodes
pub mod Passing
pub mod Joining
