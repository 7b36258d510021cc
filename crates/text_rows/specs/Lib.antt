pub mod Fields
pub mod Rows
pub mod Convert
pub mod RowMachine
pub mod Written
pub mod Filling
pub mod RowsFor
