pub mod Pictures
pub mod Growing
pub mod Orders
pub mod Covering
