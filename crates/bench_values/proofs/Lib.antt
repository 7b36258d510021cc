pub mod Bench
pub mod Forms
pub mod Chain
