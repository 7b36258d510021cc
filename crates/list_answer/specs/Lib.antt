pub mod ListAnswer
