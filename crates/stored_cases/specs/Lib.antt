pub mod Left
pub mod Digits
pub mod Fields
pub mod Parts
pub mod Filled
