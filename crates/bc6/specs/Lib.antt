pub mod Shown
pub mod Call
pub mod Numbers
