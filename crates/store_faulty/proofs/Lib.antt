pub mod Forms
pub mod Causes
