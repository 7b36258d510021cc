pub mod Shuffles
pub mod Orders
