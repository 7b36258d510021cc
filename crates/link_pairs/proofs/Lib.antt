pub mod Storing
pub mod LinkKeys
pub mod Partners
pub mod Placing
pub mod Finding
pub mod Sorting
