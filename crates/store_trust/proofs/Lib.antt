pub mod Ramp
pub mod Lowest
pub mod Searches
pub mod Verdict
