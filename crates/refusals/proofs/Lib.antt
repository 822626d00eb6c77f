pub mod Number
pub mod Unique
