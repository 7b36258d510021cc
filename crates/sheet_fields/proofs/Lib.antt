pub mod Counting
pub mod Passed
pub mod Bench
