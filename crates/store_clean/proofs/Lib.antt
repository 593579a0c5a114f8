pub mod Repeating
pub mod Linking
pub mod Leaving
pub mod Cleaning
pub mod Moving
pub mod Theorems
