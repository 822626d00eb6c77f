pub mod Sayable
pub mod ReadBack
pub mod WriteBack
pub mod Unique
