pub mod Answers
pub mod Bits
pub mod Indices
pub mod Weights
pub mod Regions
pub mod Rows
pub mod Refusals
