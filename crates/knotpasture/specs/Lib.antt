pub mod Words
pub mod Pixels
pub mod Fields
pub mod Store
pub mod Clean
pub mod Probe
pub mod Files
pub mod Bc7
