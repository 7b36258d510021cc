pub mod Readings
pub mod Climbs
pub mod Distance
pub mod Parents
pub mod Demand
pub mod Input
pub mod Answers
pub mod Finals
