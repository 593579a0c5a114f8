pub mod Building
pub mod Edges
pub mod Pictures
