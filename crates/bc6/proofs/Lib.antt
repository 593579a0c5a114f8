pub mod Codes
pub mod Link
pub mod Whole
pub mod Calls
pub mod Values
pub mod Firm
