pub mod Laws
pub mod Extend
pub mod Sized
pub mod Told
pub mod Words
pub mod Formats
