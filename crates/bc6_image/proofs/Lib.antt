pub mod Scatter
pub mod Places
pub mod Calls
pub mod Again
