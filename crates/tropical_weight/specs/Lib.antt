pub mod Limits
pub mod Tropical
pub mod Grid
pub mod Single
pub mod Units
