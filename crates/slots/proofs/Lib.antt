pub mod Clearing
pub mod Numbers
