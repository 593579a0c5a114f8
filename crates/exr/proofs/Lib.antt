pub mod Lines
pub mod Bands
pub mod Whole
pub mod Calls
pub mod Places
