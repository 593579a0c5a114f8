pub mod Words
pub mod Bytes
pub mod Expand
pub mod Indexing
pub mod Listed
