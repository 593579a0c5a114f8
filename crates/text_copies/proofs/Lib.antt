pub mod Words
pub mod CopyLines
