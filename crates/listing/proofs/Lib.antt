pub mod Signs
pub mod Labels
pub mod TextBench
pub mod Listings
pub mod Printing
