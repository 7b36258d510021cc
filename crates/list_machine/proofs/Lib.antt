pub mod Marks
pub mod Placing
pub mod AnswerByRoom
pub mod Trimming
pub mod Writings
pub mod Sources
