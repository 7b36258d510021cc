mod Bench
pub mod NestedCosts
