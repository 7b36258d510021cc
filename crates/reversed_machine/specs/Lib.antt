pub mod ReverseWords
pub mod Laid
pub mod Roomy
