pub mod Ramp
pub mod Least
