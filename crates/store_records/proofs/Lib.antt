pub mod Refusals
pub mod Readings
