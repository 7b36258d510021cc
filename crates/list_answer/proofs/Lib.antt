pub mod NoneListed
pub mod SlotsNeeded
pub mod Stores
