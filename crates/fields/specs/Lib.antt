pub mod Format
pub mod Field
pub mod Date
pub mod Layout
