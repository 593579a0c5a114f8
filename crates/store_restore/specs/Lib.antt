pub mod Restore
pub mod Theorems
