pub mod Validity
pub mod Sizes
