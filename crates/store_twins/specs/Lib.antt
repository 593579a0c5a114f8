pub mod Reserved
pub mod Strict
