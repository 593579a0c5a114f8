pub mod Validity
pub mod Sizes
pub mod Verdict
