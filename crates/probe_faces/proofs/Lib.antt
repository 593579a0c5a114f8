pub mod Strips
pub mod Painting
