pub mod Bytes
pub mod Indices
pub mod Joined
pub mod Partitions
pub mod Rows
pub mod Weights
pub mod Refusals
