pub mod Silence
pub mod Demands
pub mod Named
pub mod Outcomes
