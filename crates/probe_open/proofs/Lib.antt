pub mod Opening
pub mod Asking
pub mod Once
