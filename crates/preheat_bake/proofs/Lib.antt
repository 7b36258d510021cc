pub mod Whole
pub mod Storing
pub mod Outcomes
pub mod Promises
pub mod Bench
