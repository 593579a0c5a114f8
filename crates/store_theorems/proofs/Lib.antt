pub mod Carrying
pub mod Pictures
pub mod Growing
pub mod Nights
pub mod Orders
pub mod Covering
