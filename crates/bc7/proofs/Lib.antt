pub mod Calls
pub mod Lowest
pub mod Firm
