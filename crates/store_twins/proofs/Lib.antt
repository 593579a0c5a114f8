pub mod Reserved
pub mod Strictness
