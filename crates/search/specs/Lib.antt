pub mod Heap
pub mod Reversed
pub mod Search
pub mod ListMachine
pub mod States
pub mod Listed
