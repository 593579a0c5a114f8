pub mod Infinities
