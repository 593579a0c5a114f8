pub mod Face
pub mod Stores
