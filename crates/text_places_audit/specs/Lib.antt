pub mod Copies
pub mod Audit
pub mod Theorems
