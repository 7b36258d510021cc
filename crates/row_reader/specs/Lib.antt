pub mod Runs
pub mod Reading
pub mod Places
pub mod RowReading
pub mod Surveying
pub mod FinalRows
