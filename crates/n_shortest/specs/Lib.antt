pub mod EntryWords
pub mod HeapWords
pub mod SearchWords
pub mod Goes
