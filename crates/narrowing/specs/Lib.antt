pub mod Sums
pub mod Narrows
pub mod Parts
pub mod Refused
pub mod Joins
