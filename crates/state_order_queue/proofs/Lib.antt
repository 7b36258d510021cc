pub mod Flags
pub mod Records
pub mod Accepts
pub mod Sets
pub mod Clearing
pub mod Calls
