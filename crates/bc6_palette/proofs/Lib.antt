pub mod Entries
pub mod Flat
pub mod Calls
