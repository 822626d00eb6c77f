pub mod Str
pub mod Choice
pub mod Once
