pub mod Judging
pub mod Making
pub mod TextAnswers
