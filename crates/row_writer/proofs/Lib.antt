pub mod Lengths
pub mod Accepted
pub mod Fronts
pub mod Stored
pub mod Weights
pub mod Measured
