pub mod Adding
pub mod Channels
pub mod Sixteens
