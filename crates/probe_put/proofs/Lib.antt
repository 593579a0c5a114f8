pub mod Checks
pub mod Putting
