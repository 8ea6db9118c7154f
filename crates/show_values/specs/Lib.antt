pub mod Values
pub mod Numbered
