pub mod Joins
pub mod Product
pub mod Refusals
pub mod Fits
pub mod Refused
pub mod Halves
pub mod Keys
