pub mod Copying
pub mod Fitting
pub mod Restoring
pub mod Undoing
pub mod Theorems
pub mod Examples
