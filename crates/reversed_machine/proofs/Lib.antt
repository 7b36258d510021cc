pub mod Passing
pub mod Fronts
pub mod Chains
pub mod Untouched
pub mod Totals
pub mod Reversals
pub mod Keeping
