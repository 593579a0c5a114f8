pub mod Export
pub mod Wishes
