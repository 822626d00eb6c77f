pub mod Number
