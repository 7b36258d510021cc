pub mod OtherRows
pub mod Room
