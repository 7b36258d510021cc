pub mod Written
pub mod Held
pub mod Offer
