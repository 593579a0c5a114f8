pub mod Unquantising
pub mod Ends
pub mod Stepped
