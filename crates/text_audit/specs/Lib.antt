pub mod Audit
pub mod Verdicts
