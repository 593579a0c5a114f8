pub mod Image
pub mod Output
