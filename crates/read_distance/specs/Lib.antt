pub mod Told
pub mod Promise
