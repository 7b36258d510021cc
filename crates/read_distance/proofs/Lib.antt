pub mod Patterns
pub mod Answers
pub mod Bench
