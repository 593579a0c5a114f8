pub mod Shown
pub mod Scratch
pub mod Twins
