pub mod Bits
pub mod MapLaws
