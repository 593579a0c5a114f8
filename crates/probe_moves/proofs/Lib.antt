pub mod Checks
pub mod Moving
pub mod Undone
pub mod Calls
