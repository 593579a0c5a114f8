pub mod Walking
pub mod Entries
pub mod Telling
