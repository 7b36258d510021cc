pub mod Words
pub mod Written
pub mod Offers
