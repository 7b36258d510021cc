pub mod TrimWords
