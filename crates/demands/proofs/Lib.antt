pub mod Silences
pub mod Demands
pub mod Outcomes
pub mod Told
