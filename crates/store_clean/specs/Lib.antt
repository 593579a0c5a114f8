pub mod Clean
pub mod Links
pub mod Theorems
