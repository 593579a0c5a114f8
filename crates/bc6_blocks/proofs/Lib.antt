pub mod Runs
pub mod Calls
pub mod Decoded
