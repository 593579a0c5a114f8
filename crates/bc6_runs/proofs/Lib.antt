pub mod Gathering
pub mod Tables
pub mod Stored
pub mod Partition
pub mod Lanes
pub mod Threes
