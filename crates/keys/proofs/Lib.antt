pub mod MasterKeys
pub mod GivenKeys
pub mod Unique
