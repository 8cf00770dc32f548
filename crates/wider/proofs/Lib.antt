pub mod Copying
pub mod Indexing
