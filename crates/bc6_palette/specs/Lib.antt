pub mod Palettes
pub mod Triples
pub mod Call
