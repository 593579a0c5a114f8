pub mod Ending
pub mod Codes
