pub mod Runs
pub mod Squares
