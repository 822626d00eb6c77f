pub mod Annex
pub mod Slip
