pub mod Answering
pub mod Reading
pub mod Undoing
