pub mod SearchReads
pub mod Joining
pub mod Outcomes
pub mod Promises
