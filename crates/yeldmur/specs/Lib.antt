pub mod Told
pub mod Areas
pub mod PartLists
