pub mod Telling
pub mod Room
pub mod Numbered
pub mod ReadBack
pub mod Parts
pub mod InUnit
