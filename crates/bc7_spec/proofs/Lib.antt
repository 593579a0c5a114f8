pub mod Runs
pub mod Quoted
pub mod Values
pub mod Blocks
pub mod Lengths
