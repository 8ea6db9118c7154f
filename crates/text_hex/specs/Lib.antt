pub mod Hexadecimal
pub mod Escapes
