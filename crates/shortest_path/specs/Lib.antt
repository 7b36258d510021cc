pub mod Outcome
pub mod Promise
