pub mod Numbers
pub mod Records
pub mod Builds
pub mod Edging
pub mod Shown
