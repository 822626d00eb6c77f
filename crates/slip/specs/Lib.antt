pub mod Slip
pub mod Part
pub mod Gathering
pub mod Printed
