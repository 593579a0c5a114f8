pub mod Record
pub mod Back
