pub mod Ways
pub mod Follow
pub mod Stepping
pub mod Holding
pub mod RunCosts
pub mod Backs
pub mod Answering
pub mod Bench
