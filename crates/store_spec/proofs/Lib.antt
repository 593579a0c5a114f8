pub mod Shown
pub mod Keeping
pub mod Marking
pub mod Listing
