pub mod Queues
pub mod Conditions
pub mod Answers
