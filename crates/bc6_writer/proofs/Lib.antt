pub mod Scattering
pub mod Packing
pub mod Joining
pub mod Calls
pub mod Undone
