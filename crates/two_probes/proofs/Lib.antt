pub mod Records
pub mod Outcomes
pub mod Kept
pub mod Promises
pub mod Bench
