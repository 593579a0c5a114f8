pub mod Chosen
pub mod Points
pub mod Pixels
pub mod Link
