pub mod Way
pub mod Follows
pub mod Answers
pub mod Promise
pub mod Walks
pub mod Costs
