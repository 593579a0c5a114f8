pub mod Answers
pub mod Images
pub mod Shown
