pub mod Shading
pub mod Halves
