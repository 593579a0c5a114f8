pub mod Words
pub mod Trust
pub mod Wide
