pub mod SingleWords
