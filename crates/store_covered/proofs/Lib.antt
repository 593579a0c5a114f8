pub mod Theorem
pub mod Covering
