pub mod Ascii
pub mod Numerals
pub mod Room
