pub mod Decimals
pub mod Storing
pub mod Holding
pub mod ReadBack
